-- The log read record by record: the invariant of the loop, and the reading at its end.
--
--   Reached ..        == the invariant of the loop: the progress s and the cursor c are those after the records read so
--                        far
--   starts            == `Reached` at the start of the log
--   takes, goes_on    == a stop may be taken (`Taking`), and `Reached` holds after it
--   falls             == after a stop less of the log is left
--   ends, breaks      == `LogRead` at the end of the log, and at a bad record
use Prim.Native.Nat.{ℕ, ◌-◌, ◌*◌, ◌≤◌, ◌<◌}
use mathlib.Core.Path.{◌≡◌, refl, sym, ap, ◌∙◌}
use mathlib.Core.Bool.{Bool, true, false}
use mathlib.Core.List.{List}
use native.Mathlib.Omega.{arith}
use lib.ListN.{length}
use Rattle.std.proofs.Common.{Ok, Err, Some, None}
use Rattle.floor.specs.Floor.{floor_of, vertices}
use Rattle.moves.specs.declared.Directions.{Directions}
use Rattle.moves.proofs.Table.{listed-lawful}
use Rattle.paths.specs.Graph.{Graph}
use Rattle.grid.specs.Grid.{floor_graph}
use Rattle.grid.proofs.Lawful.{floor-lawful}
use Rattle.logs.specs.Log.{LogStep, cursor_at, closed, with_stop, and_rest, stop_at, log_from, log_of}
use Rattle.logs.specs.declared.LogCursor.{LogCursor}
use Rattle.logs.specs.declared.BadStop.{BadStop}
use Rattle.logs.proofs.Steps.{log-step, Stopped, stop-found}
use Rattle.replay.specs.Replay.{pinch_at}
use Rattle.replay.specs.Known.{Drivable, after_stop, after_stops, start_progress, Bounded, Taking, LogRead}
use Rattle.replay.specs.declared.Progress.{Progress}
use Rattle.replay.proofs.Taken.{after-bounded}

pub record Reached (w h : ℕ) (map : List ℕ) (dirs : Directions) (log : List ℕ) (s : Progress)
    (c : LogCursor) : Type 0 where
  -- the stops that are left, taken from s, give the progress that all stops give from the start
  pub rest : let f = floor_of w h map in
      after_stops (floor_graph f dirs) (pinch_at f) s (log_from log (vertices w h) c).stops
      ≡ after_stops (floor_graph f dirs) (pinch_at f) start_progress (log_of log (vertices w h)).stops
  pub broken : (log_from log (vertices w h) c).broken ≡ (log_of log (vertices w h)).broken
  pub bounded : Bounded (vertices w h) s
  pub place : c.at ≡ 4 * s.read
  pub inside : c.at ≤ length log

module _ (w h : ℕ) (map : List ℕ) (dirs : Directions) (log : List ℕ) where
  abbrev size : ℕ
  size = vertices w h

  abbrev g : Graph
  g = floor_graph (floor_of w h map) dirs

  abbrev p : ℕ → Bool
  p = pinch_at (floor_of w h map)

  pub starts : (c : LogCursor) → c ≡ cursor_at 0 → Reached w h map dirs log start_progress c
  starts c e = rw e (record {
    rest = refl;
    broken = refl;
    bounded = record { ends = tt; cost = omega arith };
    place = refl;
    inside = omega arith;
  })

  module _ {s : Progress} {c : LogCursor} (R : Reached w h map dirs log s c) {n : ℕ} (count : n ≡ size) {r : LogStep}
      (told : r ≡ stop_at log n c) where
    found : (t : LogStep) → r ≡ t → stop_at log size c ≡ t
    found t e = ap (λ k. stop_at log k c) (sym count) ∙ sym told ∙ e

    log_is : (t : LogStep) → r ≡ t → log_from log size c ≡ and_rest t (log_from log size)
    log_is t e = log-step log size c ∙ ap (λ t. and_rest t (log_from log size)) (found t e)

    module _ (v : ℕ) (d : LogCursor) (stop : r ≡ Ok (Some (v, d))) where
      stopped : Stopped log size c v d
      stopped = stop-found log size c v d (found (Ok (Some (v, d))) stop)

      pub takes : Drivable w h map dirs → length log ≤ 16384 → Taking w h map dirs s v
      takes D l =
          let t = stopped in
          record { good = D; inside = t.inside; bounded = R.bounded; few = omega (arith, R.place, t.whole) }

      pub goes_on : Drivable w h map dirs → (s' : Progress) → s' ≡ after_stop g p s v → Reached w h map dirs log s' d
      unfolding after_stops after_stop
      goes_on D s' e =
          let t = stopped in
          let q : log_from log size c ≡ with_stop v (log_from log size d) = log_is (Ok (Some (v, d))) stop in
          let lawful = floor-lawful (floor_of w h map) dirs (listed-lawful D.listed) in
          rw e (record {
            rest = sym (ap (λ l. after_stops g p s l.stops) q) ∙ R.rest;
            broken = sym (ap (λ l. l.broken) q) ∙ R.broken;
            bounded = after-bounded g p lawful size v s t.inside R.bounded;
            place = omega (arith, t.moved, R.place);
            inside = omega (arith, t.moved, t.whole);
          })

      pub falls : length log - d.at < length log - c.at
      falls = let t = stopped in omega arith

    module _ (short : length log ≤ 16384) (b : Bool) where
      closes : (t : LogStep) → r ≡ t → and_rest t (log_from log size) ≡ closed b
          → LogRead w h map dirs log (record { drive = s; broken = b })
      unfolding after_stops
      closes t e z =
          let q : log_from log size c ≡ closed b = log_is t e ∙ z in
          record {
            drive = sym (ap (λ l. after_stops g p s l.stops) q) ∙ R.rest;
            broken = sym (ap (λ l. l.broken) q) ∙ R.broken;
            bounded = R.bounded;
            few = omega (arith, R.place, R.inside);
          }

    pub ends : length log ≤ 16384 → r ≡ Ok None → LogRead w h map dirs log (record { drive = s; broken = false })
    ends l e = closes l false (Ok None) e refl

    pub breaks : (x : BadStop) → length log ≤ 16384 → r ≡ Err x → LogRead w h map dirs log (record { drive = s; broken = true })
    breaks x l e = closes l true (Err x) e refl
