-- The masks in their place.
--
--   masks-filled     == the masks, put into their place
--   masks-kept       == `MasksIn` stays where nothing past the order is stored
--   floor-masked     == the masks of a floor, with the directions of a neighbourhood, give the steps of its graph
--   masked-kept      == `Masked` stays where nothing past the order is stored
use Prim.Native.Nat.{ℕ, ◌+◌, ◌-◌, ◌*◌, ◌≤◌, ◌<◌}
use mathlib.Core.Path.{◌≡◌, sym, ap, ◌∙◌, subst}
use mathlib.Core.Bool.{true}
use mathlib.Core.List.{List, ◌++◌}
use native.Mathlib.Omega.{arith}
use borrow.Rule.Slice.PartMut.{put_mid, post_of, mid_of, same_len_mid}
use lib.ListN.{length, take, get_or, length-take, length-drop, get_or-append}
use lib.Seq.{get_or-append-add, length-take-le}
use Rattle.floor.specs.Floor.{Floor, vertices}
use Rattle.moves.specs.declared.Directions.{Directions}
use Rattle.moves.specs.Table.{lawful_dirs}
use Rattle.sight.specs.Sight.{sees}
use Rattle.masks.specs.Masks.{OpenAt, OpenMasks}
use Rattle.offsets.specs.Offsets.{Shifts}
use Rattle.paths.specs.Graph.{Graph}
use Rattle.paths.specs.Local.{entry}
use Rattle.grid.specs.Grid.{floor_graph}
use Rattle.neighbours.proofs.Shown.{Shows, mask-shows}
use Rattle.workspace.specs.Regions.{mask_on, MasksIn, MasksFilled, Masked}

-- The masks, put into their place in a working slice of 4 * V places.
module _ (f : Floor) (r : Directions) (n : ℕ) (work masks : List ℕ) (count : n ≡ vertices f.wide f.high)
    (room : length work ≡ 4 * vertices f.wide f.high) (M : OpenMasks f r masks) where
  abbrev k : ℕ
  k = 3 * n - 2 * n

  front : length (take (2 * n) work) ≡ 2 * n
  front = length-take-le (2 * n) work (omega arith)

  middle : length masks ≡ length (mid_of (2 * n) k work)
  middle = simp (length-take, length-drop) (omega (arith, M.len))

  mask-there : (v : ℕ) → v < vertices f.wide f.high → mask_on f (put_mid (2 * n) k work masks) v ≡ get_or masks v 0
  mask-there v i =
      let e : 2 * vertices f.wide f.high + v ≡ length (take (2 * n) work) + v = omega (arith, front) in
      ap (λ j. get_or (put_mid (2 * n) k work masks) j 0) e
      ∙ get_or-append-add (take (2 * n) work) (masks ++ post_of (2 * n) k work) v 0
      ∙ get_or-append masks (post_of (2 * n) k work) 0 v (omega (arith, M.len))

  pub masks-filled : MasksFilled f r work (put_mid (2 * n) k work masks)
  masks-filled = record {
    len = same_len_mid (2 * n) k work masks middle;
    masks = record { at = λ v i. rw (mask-there v i) (M.at v i) };
  }

pub masks-kept : {f : Floor} {r : Directions} {work work' : List ℕ}
    → ((i : ℕ) → vertices f.wide f.high < i → entry work' i ≡ entry work i) → MasksIn f r work → MasksIn f r work'
masks-kept {f} {r} rest M = record {
  at = λ v i. subst (OpenAt f r v) (sym (rest (2 * vertices f.wide f.high + v) (omega arith))) (M.at v i);
}

pub floor-masked : (f : Floor) (r : Directions) {s work : List ℕ} → f.wide ≤ 127 → f.high ≤ 127 → lawful_dirs r ≡ true
    → Shifts f.wide r s → MasksIn f r work → Masked (floor_graph f r) r s work
floor-masked f r {work = work} p q lawful S M = record {
  shows = λ u i. mask-shows sees f r lawful S p q (mask_on f work u) u i (M.at u i);
}

pub masked-kept : {g : Graph} {r : Directions} {s work work' : List ℕ} → Masked g r s work
    → ((i : ℕ) → g.size < i → entry work' i ≡ entry work i) → Masked g r s work'
masked-kept {g} {r} {s} M rest = record {
  shows = λ u i. subst (λ n. Shows g r s n u) (sym (rest (2 * g.size + u) (omega arith))) (M.shows u i);
}
