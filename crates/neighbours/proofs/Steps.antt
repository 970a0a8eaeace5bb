-- A far end as the code answers it.
--
--   end-shut, end-at == where `end_of o` is none, o is; where it is the vertex w, o is some w
use Prim.Native.Nat.{ℕ}
use mathlib.Core.Path.{◌≡◌, refl, ap}
use mathlib.Core.Option.{Option, none, some}
use Rattle.std.specs.Prelude.{Some, None}
use Rattle.floor.specs.declared.Vertex.{Vertex}
use Rattle.offsets.specs.Offsets.{end_of}

pub end-shut : (o : Option ℕ) → end_of o ≡ None → o ≡ none
end-shut none e = refl
end-shut (some w) e = cc

pub end-at : (o : Option ℕ) (w : ℕ) → end_of o ≡ Some (record { 0 = w }) → o ≡ some w
end-at none w e = cc
end-at (some u) w e =
    let q : ◌≡◌ {A = Vertex} (record { 0 = u }) (record { 0 = w }) = cc in ap (λ (x : Vertex). some x.0) q
