-- What the first report means, for every input that is not refused.
--
--   Differ f f' c      == cell c is not the same on the two floors
--   Same f f'          == every cell of the first floor is the same on the second
--   counts-add         == closed + opened is the number of cells listed
--   Lists f f' n l     == the first n numbers of l are exactly the cells that differ, ascending; past them l is 0
--   listed-cells       == `Lists f f' n l` holds of the slice l that the report leaves, n being closed + opened
--   same-cells         == on floors with the same cells both counts are 0, and so is every place of the slice
--   same-counts        == floors for which both counts are 0 have the same cells
use Prim.Native.Nat.{ℕ, ◌+◌, ◌-◌, ◌*◌, ◌≤◌, ◌<◌}
use mathlib.Core.Path.{◌≡◌, refl, sym, ap, ap₂, ◌∙◌}
use mathlib.Core.List.{List, []}
use native.Mathlib.Omega.{arith}
use lib.ListN.{length, get_or}
use Rattle.std.proofs.Common.{Ok, Err}
use Rattle.basics.specs.Lists.{padded, zeros, chosen}
use Rattle.basics.proofs.Lists.{get_or-padded, get_or-padded-past}
use Rattle.basics.proofs.Counting.{
  count_none,
  count-zero,
  count-or,
  length-chosen,
  chosen_none,
  chosen-holds,
  chosen-has,
  chosen-rises,
}
use Rattle.floor.specs.Floor.{Floor, cell_numbered}
use Rattle.floor.specs.Refusals.{Shape, and_then}
use Rattle.changes.specs.Changes.{
  GivenFloor,
  floor_in,
  closes,
  opens,
  differs,
  differing,
  tally,
  tally_of,
  cells_shape,
  cells_answer,
  cells_left,
}
use Rattle.changes.specs.declared.Tally.{Tally}
use Rattle.changes.proofs.Cell.{apart, same-neither, neither-same, other_differs, differs-other}

abbrev pub Differ : Floor → Floor → ℕ → Type 0
Differ f f' c = cell_numbered f c ≡ cell_numbered f' c → ⊥

abbrev pub Same : Floor → Floor → Type 0
Same f f' = (c : ℕ) → c < f.wide * f.high → cell_numbered f c ≡ cell_numbered f' c

abbrev cells : Floor → ℕ
cells f = f.wide * f.high

module _ (f f' : Floor) where
  pub counts-add : (tally_of f f').closed + (tally_of f f').opened ≡ length (differing f f')
  unfolding tally_of differing
  counts-add =
      sym (length-chosen (cells f) (differs f f')
      ∙ count-or (cells f) (closes f f') (opens f f') (λ c i. apart (cell_numbered f c) (cell_numbered f' c)))

  -- Where no cell differs, nothing is listed and nothing is counted.
  same_none : Same f f' → differing f f' ≡ []
  unfolding differing
  same_none s =
      chosen_none (cells f) (differs f f') (λ c i.
      let n = same-neither (cell_numbered f c) (cell_numbered f' c) (s c i) in rw (n.0, n.1))

  same-tally : Same f f' → tally_of f f' ≡ tally 0 0
  unfolding tally_of
  same-tally s =
      ap₂ tally
      (count_none (cells f) (closes f f') (λ c i. (same-neither (cell_numbered f c) (cell_numbered f' c) (s c i)).0))
      (count_none (cells f) (opens f f') (λ c i. (same-neither (cell_numbered f c) (cell_numbered f' c) (s c i)).1))

  tally-same : tally_of f f' ≡ tally 0 0 → Same f f'
  unfolding tally_of
  tally-same e c i =
      neither-same (cell_numbered f c) (cell_numbered f' c)
      (count-zero (cells f) (closes f f') (ap (λ t. t.closed) e) c i)
      (count-zero (cells f) (opens f f') (ap (λ t. t.opened) e) c i)

pub record Lists (f f' : Floor) (n : ℕ) (l : List ℕ) : Type 0 where
  pub differ : (i : ℕ) → i < n → (get_or l i 0 < f.wide * f.high) × Differ f f' (get_or l i 0)
  pub all : (c : ℕ) → c < f.wide * f.high → Differ f f' c → (i : ℕ) × (i < n) × (get_or l i 0 ≡ c)
  pub rise : (i j : ℕ) → i < j → j < n → get_or l i 0 < get_or l j 0
  pub rest : (i : ℕ) → n ≤ i → get_or l i 0 ≡ 0

-- `Lists` holds of the differing cells, padded.
padded-lists : (f f' : Floor) (k : ℕ) → Lists f f' (length (differing f f')) (padded k (differing f f'))
unfolding differing
padded-lists f f' k =
    let d = chosen (cells f) (differs f f') in
    record {
      differ = λ i h.
          let r = chosen-holds (cells f) i (differs f f') h in
          let c = get_or d i 0 in
          rw (get_or-padded k i d h) (r.0, differs-other (cell_numbered f c) (cell_numbered f' c) r.1);
      all = λ c i o.
          let r = chosen-has (cells f) c (differs f f') i (other_differs (cell_numbered f c) (cell_numbered f' c) o) in
          (r.0, r.1, get_or-padded k r.0 d r.1 ∙ r.2);
      rise = λ i j o h.
          rw (get_or-padded k i d (omega arith), get_or-padded k j d h) (chosen-rises (cells f) i j (differs f f') o h);
      rest = λ i h. get_or-padded-past k i d h;
    }

-- ---- the first report

padded-none : (n : ℕ) → padded n [] ≡ zeros n
unfolding padded
padded-none n = let e : n - 0 ≡ n = omega arith in ap zeros e

listed-good : (s : Shape) (x t : Tally) → and_then s (Ok x) ≡ Ok t → (s ≡ Ok tt) × (x ≡ t)
listed-good (Ok u) x t e = (refl, cc)
listed-good (Err r) x t e = cc

module _ (p q : GivenFloor) (l : List ℕ) where
  module _ {t : Tally} (answer : cells_answer p q l ≡ Ok t) where
    good : (cells_shape p q (length l) ≡ Ok tt) × (tally_of (floor_in p) (floor_in q) ≡ t)
    unfolding cells_answer
    good = listed-good (cells_shape p q (length l)) (tally_of (floor_in p) (floor_in q)) t answer

    pub listed-cells : Lists (floor_in p) (floor_in q) (t.closed + t.opened) (cells_left p q l)
    unfolding cells_left
    listed-cells =
        let n : t.closed + t.opened ≡ length (differing (floor_in p) (floor_in q)) =
        ap (λ x. x.closed + x.opened) (sym good.1) ∙ counts-add (floor_in p) (floor_in q) in
        rw (n, good.0) (padded-lists (floor_in p) (floor_in q) (length l))

    pub same-counts : t ≡ tally 0 0 → Same (floor_in p) (floor_in q)
    same-counts e = tally-same (floor_in p) (floor_in q) (good.1 ∙ e)

  pub same-cells : cells_shape p q (length l) ≡ Ok tt → Same (floor_in p) (floor_in q)
      → (cells_answer p q l ≡ Ok (tally 0 0)) × (cells_left p q l ≡ zeros (length l))
  unfolding cells_answer cells_left
  same-cells g s = (
    rw (g, same-tally (floor_in p) (floor_in q) s),
    rw (g, same_none (floor_in p) (floor_in q) s) (padded-none (length l)),
  )
