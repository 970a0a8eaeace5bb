-- Laws of `none` and `some`.
use Prim.Native.Nat.{ℕ}
use mathlib.Core.Path.{◌≡◌}
use mathlib.Core.Option.{Option, none, some}

pub none-some : {P : Type 0} {w : ℕ} → ◌≡◌ {A = Option ℕ} none (some w) → P
none-some e = cc

pub some_same : {v w : ℕ} → ◌≡◌ {A = Option ℕ} (some v) (some w) → v ≡ w
some_same e = cc
