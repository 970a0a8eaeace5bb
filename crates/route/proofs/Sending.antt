-- Writing the program's text part by part: what a part leaves to be written.
--
--   left-first        == before the first part all of the text is left
--   left-more         == past a part the rest is left
--   left-stands       == the part stands at the place that it is written to
--   next-rest         == what is left of a part stands at the place that it is written to
--   left-all          == where nothing is left all is written
--   turn-sent         == past the text of a turn the text from the turn's cursor on is due, or all is written
--   bad-next, bad-all == the line of a bad record where the map is due is all of the text
--   never-end, never-job == what stands where the map is due is a map or a bad record
use Prim.Native.Nat.{ℕ, zero, suc, ◌+◌, ◌-◌, ◌≤◌, ◌<◌}
use mathlib.Core.Path.{◌≡◌, refl, sym, ap, ◌∙◌, subst}
use mathlib.Core.Bool.{Bool}
use mathlib.Core.List.{List, [], ◌∷◌, ◌++◌}
use native.Mathlib.Omega.{arith}
use lib.ListN.{length, take, drop, length-append, length-drop}
use lib.Seq.{length-take-le, take_all, take-nil, take-append_seam, drop-append_seam, drop-drop}
use Rattle.records.specs.Format.{Step, gives_job, gives_end, gives_bad, record_at, start_cursor}
use Rattle.records.specs.Lines.{bad_line}
use Rattle.records.specs.Known.{Written}
use Rattle.records.specs.declared.stream.Cursor.{Cursor}
use Rattle.records.specs.declared.stream.JobRecord.{JobRecord}
use Rattle.std.specs.Prelude.{Option, Some, None}
use Rattle.records.proofs.Moved.{job-step}
use Rattle.records.proofs.Found.{Finding, found_map, no-map, at-end, found-job, no-job, finding}
use Rattle.program_text.specs.Text.{program_text}
use Rattle.program_text.specs.Contract.{text_from, and_from, Moves, TurnWritten}
use Rattle.program_text.specs.declared.Turn.{Turn}
use Rattle.program_text.proofs.Start.{written-take, written-size}
use Rattle.program_text.proofs.Program.{program-bad}
use Rattle.route.specs.Sent.{Input, Sure, Left, Next, turn_room, Due, AllSent, GoesOn}

-- ---- a text and its parts

pub left-first : (text : List ℕ) → Left text 0 text
left-first text = record { from = refl; size = omega arith }

module _ {text : List ℕ} {k : ℕ} (part rest : List ℕ) (l : Left text k (part ++ rest)) where
  pub left-more : Left text (k + length part) rest
  left-more = record {
    from = sym (drop-drop (length part) k text) ∙ ap (drop (length part)) l.from ∙ drop-append_seam part rest;
    size = omega (arith, l.size, length-append part rest);
  }

  pub left-stands : take (length part) (drop k text) ≡ part
  left-stands = ap (take (length part)) l.from ∙ take-append_seam part rest

drop-take : (n m : ℕ) (l : List ℕ) → drop n (take m l) ≡ take (m - n) (drop n l)
drop-take zero m l = let e : m ≡ m - 0 = omega arith in ap (λ k. take k l) e
drop-take (suc n) zero l = let e : 0 ≡ 0 - suc n = omega arith in ap (λ k. take k (drop (suc n) l)) e
drop-take (suc n) (suc m) [] = sym (take-nil (suc m - suc n))
drop-take (suc n) (suc m) (x ∷ l) =
    let e : m - n ≡ suc m - suc n = omega arith in drop-take n m l ∙ ap (λ k. take k (drop n l)) e

-- What is left of a part of which n bytes are written.
pub next-rest : {p : List ℕ} {over : Bool} {k : ℕ} {part : List ℕ} (n : ℕ) → n ≤ length part → Next p over k part
    → Next p over (k + n) (take (length part - n) (drop n part))
next-rest {p} {over} {k} {part} n l x =
    let whole : drop n part ≡ take (length part - n) (drop n part) =
    sym (take_all (length part - n) (drop n part) (omega (arith, length-drop n part))) in
    subst (Next p over (k + n)) whole record {
      stands = λ s i.
          ap (λ m. take m (drop (k + n) (program_text s))) (length-drop n part)
          ∙ ap (take (length part - n)) (sym (drop-drop n k (program_text s)))
          ∙ sym (drop-take n (length part) (drop k (program_text s))) ∙ ap (drop n) (x.stands s i);
      few = omega (arith, length-drop n part, x.few);
    }

pub left-all : {text : List ℕ} {k : ℕ} → Left text k [] → k ≡ length text
left-all l = omega (arith, l.size)

-- ---- a turn

append-none : (l : List ℕ) → l ≡ l ++ []
append-none [] = refl
append-none (x ∷ l) = ap (λ m. x ∷ m) (append-none l)

-- The text from the cursor that a turn hands back on; none past the last.
after : Option Cursor → (Cursor → List ℕ) → List ℕ
after (Some d) rest = rest d
after None rest = []

turn-parts : (o : Option Cursor) (l : List ℕ) (rest : Cursor → List ℕ) → and_from l o rest ≡ l ++ after o rest
unfolding after
turn-parts (Some d) l rest = refl
turn-parts None l rest = append-none l

module _ {p : List ℕ} {over : Bool} {w h : ℕ} {map : List ℕ} {c : Cursor} {k : ℕ} {r : Turn} {out : List ℕ} {n : ℕ}
    (due : Due p over w h map c k) (sure : Sure p over c) (told : TurnWritten p w h map c r out)
    (e : n ≡ r.bytes) where
  left-turn : (s : List ℕ) → Input p over s → Left (program_text s) k (take n out ++ after r.next (text_from s w h map))
  left-turn s i =
      let same : text_from s w h map c ≡ take n out ++ after r.next (text_from s w h map) =
      sym (told.text s (sure.same s i)) ∙ turn-parts r.next (take r.bytes out) (text_from s w h map)
      ∙ ap (λ m. take m out ++ after r.next (text_from s w h map)) (sym e) in
      subst (λ z. Left (program_text s) k z) same (due.left s i)

  part-size : length (take n out) ≡ n
  part-size = length-take-le n out (omega (arith, told.fits))

  past : (s : List ℕ) → Input p over s → Left (program_text s) (k + n) (after r.next (text_from s w h map))
  past s i =
      subst (λ m. Left (program_text s) (k + m) (after r.next (text_from s w h map))) part-size
      (left-more (take n out) (after r.next (text_from s w h map)) (left-turn s i))

  module _ (room : length out ≤ turn_room) where
    turn_more : {d : Cursor} → r.next ≡ Some d → (c.at < d.at) × Due p over w h map d (k + n)
    unfolding after
    turn_more {d} x =
        let g = subst (Moves p c) x told.on.moved in (
          g.0,
          record {
            left = λ s i. subst (λ z. Left (program_text s) (k + n) (after z (text_from s w h map))) x (past s i);
            job = g.2;
            reached = g.3 due.reached;
            place = g.1;
            short = due.short;
            few = omega (arith, due.few, told.fits, g.0);
          },
        )

    turn_last : r.next ≡ None → AllSent p over (k + n)
    unfolding after
    turn_last x = record {
      all = λ s i. left-all (subst (λ z. Left (program_text s) (k + n) (after z (text_from s w h map))) x (past s i));
    }

    pub turn-sent : GoesOn p over w h map c (k + n) r.next
    turn-sent = cases r.next refl
      where
        cases : (o : Option Cursor) → r.next ≡ o → GoesOn p over w h map c (k + n) o
        cases (Some d) x = turn_more x
        cases None x = turn_last x

-- ---- a bad record where the map is due

module _ {p : List ℕ} {over : Bool} {k : ℕ} {line line' : List ℕ} {n : ℕ} (sure : Sure p over start_cursor)
    (bad : record_at p start_cursor ≡ gives_bad k) (t : Written line 0 (bad_line k) line' n) where
  bad-text : (s : List ℕ) → Input p over s → program_text s ≡ take n line'
  bad-text s i = program-bad s k (sure.same s i ∙ bad) ∙ sym (written-take t)

  bad-size : length (take n line') ≡ n
  bad-size = ap length (written-take t) ∙ sym (written-size t)

  pub bad-next : 64 ≡ length line → Next p over 0 (take n line')
  bad-next room = record {
    stands = λ s i. left-stands (take n line') [] (subst (λ z. Left (program_text s) 0 z)
        (bad-text s i ∙ append-none (take n line')) (left-first (program_text s)));
    few = omega (arith, bad-size, t.room, t.place);
  }

  pub bad-all : AllSent p over n
  bad-all = record { all = λ s i. sym (ap length (bad-text s i) ∙ bad-size) }

pub never-end : {P : Type 0} (s : List ℕ) → record_at s start_cursor ≡ gives_end → P
never-end {P} s e = cases (record_at s start_cursor) (finding s start_cursor) e
  where
    cases : (r : Step) → Finding s start_cursor r → r ≡ gives_end → P
    cases _ (found_map z g) x = let q : ◌≡◌ {A = ℕ} 0 1 = cc in absurd (omega arith)
    cases _ (no-map z g) x = let q : ◌≡◌ {A = ℕ} 0 1 = cc in absurd (omega arith)
    cases _ (at-end a l) x = absurd (omega arith)
    cases _ (found-job a b g) x = absurd (omega arith)
    cases _ (no-job a l g) x = absurd (omega arith)

pub never-job : {P : Type 0} (s : List ℕ) {j : JobRecord} {d : Cursor} → record_at s start_cursor ≡ gives_job j d → P
never-job s {j} {d} e =
    let f = job-step s start_cursor j d e in
    absurd (omega (arith, f.number, f.number_pos))
