-- Reading a stream as it comes: whether the bytes read so far settle the record at a cursor.
--
--   MapSettled p a   == map_at (p ++ t) a = map_at p a for all bytes t that may follow p
--   JobSettled p a k == job_at (p ++ t) a k = job_at p a k for all bytes t that may follow p
--   Settled p c      == record_at (p ++ t) c = record_at p c for all bytes t that may follow p
--   Decides b P      == b is true where P holds, and false where it does not
--   longest          == the number of bytes of an input that can matter: 4 + 31 * 31 + 7 * 1000 + 1
--   Reached c        == what holds of every cursor that stepping comes to: it is at place 0 where the map is due, its
--                       place is at most 958 + 7 * due, and due is at most 1,001
use Rattle.std.specs.Prelude.{ℕ, ◌+◌, ◌*◌, ◌≤◌, ◌≡◌, Bool, true, false, List, ◌++◌}
use Rattle.records.specs.Format.{map_at, job_at, record_at}
use Rattle.records.specs.declared.stream.Cursor.{Cursor}

abbrev pub MapSettled : List ℕ → ℕ → Type 0
MapSettled p a = (t : List ℕ) → map_at (p ++ t) a ≡ map_at p a

abbrev pub JobSettled : List ℕ → ℕ → ℕ → Type 0
JobSettled p a k = (t : List ℕ) → job_at (p ++ t) a k ≡ job_at p a k

abbrev pub Settled : List ℕ → Cursor → Type 0
Settled p c = (t : List ℕ) → record_at (p ++ t) c ≡ record_at p c

pub record Decides (b : Bool) (P : Type 0) : Type 0 where
  pub yes : b ≡ true → P
  pub no : b ≡ false → P → ⊥

abbrev pub longest : ℕ
longest = 7966

pub record Reached (c : Cursor) : Type 0 where
  pub start : c.due ≡ 0 → c.at ≡ 0
  pub place : c.at ≤ 958 + 7 * c.due
  pub number : c.due ≤ 1001
