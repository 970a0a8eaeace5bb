-- `distances::dijkstra::settle_begun` meets its contract: at each turn `Running` holds of the four classes and their
-- three positions, on any graph that the algorithm can run on. A turn of the last position is two turns of the law; where
-- its classes have no move it has no turn, and its key is the greatest. Assumes nothing.
use native.Mathlib.Omega.{arith}
use mathlib.Core.Path.{◌≡◌, refl, sym, ap, ◌∙◌}
use mathlib.Core.List.{List, [], ◌∷◌}
use Prim.Native.Nat.{ℕ, ◌+◌, ◌≤◌, ◌<◌}
use Rattle.paths.specs.Distance.{unreachable}
use Rattle.offsets.specs.Classes.{class_at}
use Rattle.distances.specs.Dijkstra.{key_of, Keyed, Running}
use Rattle.distances.proofs.Store.{settled-le}
use Rattle.distances.proofs.Turn.{keyed, key-most, key-out, Keys, Lowest, least-of}
use Rattle.distances.proofs.Turn.{TurnOn, turn_on, turn_again, filled_on}
use Rattle.distances.proofs.Start.{running-start, four-first}
use Rattle.distances.proofs.dijkstra.settle_begun.Given.{Over}
use Rattle.distances.proofs.dijkstra.settle_begun.Goals.{then-this-ne0, else-this-ne0}
use Rattle.distances.proofs.dijkstra.settle_begun.Goals.{At-loop-d, Joined-this-ne0, Then-k0, Else-k0, Then-k1-k2, Else-k1-k2}
use Rattle.distances.proofs.dijkstra.settle_begun.Goals as goal

module _ {o : Over} where
  -- The positions: the last two classes have one.
  abbrev places : At-loop-d o → List ℕ
  places l = l.loop-d.p0 ∷ l.loop-d.p1 ∷ l.loop-d.p2 ∷ l.loop-d.p2 ∷ []

  -- What holds on the graph that the contract names.
  running : (l : At-loop-d o)
      → let b = l.requires.begun in
      Running b.0 b.1 b.2 l.loop-d.n l.args.classes (places l) l.loop-d.d l.args.work.now l.loop-d.work
  running l = l.loop-d.invariant _ _ _ l.requires.begun.3

  can-key : (l : At-loop-d o) → Keyed l.loop-d.n l.loop-d.d l.loop-d.work
  can-key l = keyed (running l).settled

  key-2 : (c : Joined-this-ne0 o)
      → c.if-this-ne0.k2 ≡ key_of c.loop-d.n c.loop-d.p2 (class_at c.args.classes 2).cost c.loop-d.d c.loop-d.work
  key-2 c = elim c.if-this-ne0.branch [
    | then-this-ne0 w ↦ w.k2-is ∙ w.key_at-k2.ensures
    | else-this-ne0 w ↦
        let R = running (goal.at.Joined-this-ne0 o c).At-loop-d in
        let bare = c.requires.unused (rw w.if-this-ne0.false refl) in
        w.k2-is ∙ sym (key-out _ _ _ _ _ (omega (arith, (R.passed 2 (omega arith)).unused bare, settled-le R.settled)))
  ]

  keys : (c : Joined-this-ne0 o)
      → Keys c.loop-d.n c.key_at-k0.result c.key_at-k1.result c.if-this-ne0.k2 c.args.classes
      (places (goal.at.Joined-this-ne0 o c).At-loop-d) c.loop-d.d c.loop-d.work
  keys c = record {
    at_0 = c.key_at-k0.ensures;
    at_1 = c.key_at-k1.ensures;
    at_2 = key-2 c;
    at_3 = key-2 c
        ∙ ap (λ x. key_of c.loop-d.n c.loop-d.p2 x c.loop-d.d c.loop-d.work) c.requires.begun.3.runs.classes.paired;
  }

  key-0-most : (c : Joined-this-ne0 o) → c.key_at-k0.result ≤ unreachable
  key-0-most c =
      let C = c.requires.begun.3.runs.classes in
      omega (arith, (keys c).at_0, key-most _ c.loop-d.p0 _ _ _ (can-key (goal.at.Joined-this-ne0 o c).At-loop-d) (C.each 0 (omega arith)).high)

  abbrev Chosen : Joined-this-ne0 o → ℕ → ℕ → Type 0
  Chosen c k key =
      Lowest c.loop-d.n k key c.args.classes (places (goal.at.Joined-this-ne0 o c).At-loop-d) c.loop-d.d c.loop-d.work

  chosen-0 : (c : Joined-this-ne0 o) → c.key_at-k0.result ≤ c.key_at-k1.result → c.key_at-k0.result ≤ c.if-this-ne0.k2
      → Chosen c 0 c.key_at-k0.result
  chosen-0 c p q = least-of (keys c) 0 (omega arith) (keys c).at_0 (omega arith) p q

  chosen-1 : (c : Then-k1-k2 o) → Chosen (goal.at.Then-k1-k2 o c).Joined-this-ne0 1 c.key_at-k1.result
  chosen-1 c =
      let K = keys (goal.at.Then-k1-k2 o c).Joined-this-ne0 in
      least-of K 1 (omega arith) K.at_1 (omega (arith, c.if-k0-min.false, c.min.ensures, c.if-k1-k2.true)) (omega arith)
      c.if-k1-k2.true

  chosen-2 : (c : Else-k1-k2 o) → Chosen (goal.at.Else-k1-k2 o c).Joined-this-ne0 2 c.if-this-ne0.k2
  chosen-2 c =
      let K = keys (goal.at.Else-k1-k2 o c).Joined-this-ne0 in
      least-of K 2 (omega arith) K.at_2 (omega (arith, c.if-k0-min.false, c.min.ensures, c.if-k1-k2.false))
      (omega (arith, c.if-k1-k2.false)) (omega arith)

  low-2 : (c : Else-k1-k2 o) → c.if-this-ne0.k2 < unreachable
  low-2 c =
      omega (arith, key-0-most (goal.at.Else-k1-k2 o c).Joined-this-ne0, c.if-k0-min.false, c.min.ensures, c.if-k1-k2.false)

  abbrev TurnOf : Joined-this-ne0 o → ℕ → ℕ → Type 0
  TurnOf c k key =
      let a = c.args in
      TurnOn a.shifts.now c.loop-d.n k key a.classes (places (goal.at.Joined-this-ne0 o c).At-loop-d) a.d.now c.loop-d.d
      a.work.now c.loop-d.work

  turn-0 : (c : Else-k0 o) → TurnOf (goal.at.Else-k0 o c).Joined-this-ne0 0 c.key_at-k0.result
  turn-0 c =
      let J = (goal.at.Else-k0 o c).Joined-this-ne0 in
      let least = c.min.ensures in
      turn_on c.loop-d.invariant
      (chosen-0 J (omega (arith, c.if-k0-min.true, least)) (omega (arith, c.if-k0-min.true, least)))
      (omega (arith, key-0-most J, c.if-k0.false)) refl

  turn-1 : (c : Then-k1-k2 o) → TurnOf (goal.at.Then-k1-k2 o c).Joined-this-ne0 1 c.key_at-k1.result
  turn-1 c =
      turn_on c.loop-d.invariant (chosen-1 c)
      (omega (arith, key-0-most (goal.at.Then-k1-k2 o c).Joined-this-ne0, c.if-k0-min.false, c.min.ensures, c.if-k1-k2.true))
      refl

  turn-2 : (c : Else-k1-k2 o) → TurnOf (goal.at.Else-k1-k2 o c).Joined-this-ne0 2 c.if-this-ne0.k2
  turn-2 c = turn_on c.loop-d.invariant (chosen-2 c) (low-2 c) refl

pub loop-d-init : goal.loop-d-init
loop-d-init o c =
    let a = c.args in
    let x = c.first_place-p0.ensures in
    let y = c.first_place-p1.ensures in
    let z = c.first_place-p2.ensures in
    λ g r b B. running-start B (four-first a.classes _ _ _
    (record { zeroth = x.0; past = x.1 }) (record { zeroth = y.0; past = y.1 })
    (record { zeroth = z.0; past = z.1 }) B.runs.classes.paired)

pub key_at-k0-requires : goal.key_at-k0-requires
key_at-k0-requires o c = (can-key c, (c.requires.begun.3.runs.classes.each 0 (omega arith)).high)

pub key_at-k1-requires : goal.key_at-k1-requires
key_at-k1-requires o c =
    (can-key (goal.at.key_at-k1-requires o c).At-loop-d, (c.requires.begun.3.runs.classes.each 1 (omega arith)).high)

pub key_at-k2-requires : goal.key_at-k2-requires
key_at-k2-requires o c =
    (can-key (goal.at.key_at-k2-requires o c).At-loop-d, (c.requires.begun.3.runs.classes.each 2 (omega arith)).high)

pub returns-then-k0 : goal.returns-then-k0
returns-then-k0 o c =
    let least = c.min.ensures in
    filled_on c.loop-d.invariant
    (chosen-0 (goal.at.returns-then-k0 o c).Joined-this-ne0 (omega (arith, c.if-k0-min.true, least))
    (omega (arith, c.if-k0-min.true, least))) c.if-k0.true

pub relax-n-requires : goal.relax-n-requires
relax-n-requires o c = (_, _, _, (turn-0 (goal.at.relax-n-requires o c).Else-k0 _ _ _ c.requires.begun.3).relaxing)

pub overflow_add-p0 : goal.overflow_add-p0
overflow_add-p0 o c = omega (arith, (turn-0 (goal.at.overflow_add-p0 o c).Else-k0 _ _ _ c.requires.begun.3).small)

pub loop-d-smaller-then-k0-min : goal.loop-d-smaller-then-k0-min
loop-d-smaller-then-k0-min o c =
    (turn-0 (goal.at.loop-d-smaller-then-k0-min o c).Else-k0 _ _ _ c.requires.begun.3).falls

pub loop-d-preserved-then-k0-min : goal.loop-d-preserved-then-k0-min
loop-d-preserved-then-k0-min o c =
    λ g r a B. let t = turn-0 (goal.at.loop-d-preserved-then-k0-min o c).Else-k0 g r a B in
    t.next (c.relax-n.ensures g r a t.relaxing)

pub relax-n-requires-then-k1-k2 : goal.relax-n-requires-then-k1-k2
relax-n-requires-then-k1-k2 o c =
    (_, _, _, (turn-1 (goal.at.relax-n-requires-then-k1-k2 o c).Then-k1-k2 _ _ _ c.requires.begun.3).relaxing)

pub overflow_add-p1 : goal.overflow_add-p1
overflow_add-p1 o c = omega (arith, (turn-1 (goal.at.overflow_add-p1 o c).Then-k1-k2 _ _ _ c.requires.begun.3).small)

pub loop-d-smaller-then-k1-k2 : goal.loop-d-smaller-then-k1-k2
loop-d-smaller-then-k1-k2 o c =
    (turn-1 (goal.at.loop-d-smaller-then-k1-k2 o c).Then-k1-k2 _ _ _ c.requires.begun.3).falls

pub loop-d-preserved-then-k1-k2 : goal.loop-d-preserved-then-k1-k2
loop-d-preserved-then-k1-k2 o c =
    λ g r a B. let t = turn-1 (goal.at.loop-d-preserved-then-k1-k2 o c).Then-k1-k2 g r a B in
    t.next (c.relax-n-then-k1-k2.ensures g r a t.relaxing)

pub relax-n-requires-else-k1-k2 : goal.relax-n-requires-else-k1-k2
relax-n-requires-else-k1-k2 o c =
    (_, _, _, (turn-2 (goal.at.relax-n-requires-else-k1-k2 o c).Else-k1-k2 _ _ _ c.requires.begun.3).relaxing)

-- The second half of a turn of the last position: the same key, for the other class at its place.
pub relax-n-requires-else-k1-k2-2 : goal.relax-n-requires-else-k1-k2-2
relax-n-requires-else-k1-k2-2 o c =
    let E = (goal.at.relax-n-requires-else-k1-k2-2 o c).Else-k1-k2 in (
      _,
      _,
      _,
      (turn_again c.loop-d.invariant (chosen-2 E) (low-2 E) refl refl c.relax-n-else-k1-k2.ensures _ _ _
          c.requires.begun.3).relaxing,
    )

pub overflow_add-p2 : goal.overflow_add-p2
overflow_add-p2 o c = omega (arith, (turn-2 (goal.at.overflow_add-p2 o c).Else-k1-k2 _ _ _ c.requires.begun.3).small)

pub loop-d-smaller : goal.loop-d-smaller
loop-d-smaller o c =
    let B = c.requires.begun.3 in
    let E = (goal.at.loop-d-smaller o c).Else-k1-k2 in
    omega (
      arith,
      (turn-2 E _ _ _ B).falls,
      (turn_again c.loop-d.invariant (chosen-2 E) (low-2 E) refl refl c.relax-n-else-k1-k2.ensures _ _ _ B).falls,
    )

pub loop-d-preserved : goal.loop-d-preserved
loop-d-preserved o c =
    let E = (goal.at.loop-d-preserved o c).Else-k1-k2 in
    λ g r a B.
    let t = turn_again c.loop-d.invariant (chosen-2 E) (low-2 E) refl refl c.relax-n-else-k1-k2.ensures g r a B in
    t.next (c.relax-n-else-k1-k2-2.ensures g r a t.relaxing)
