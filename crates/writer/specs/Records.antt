-- docs/RULES.md, 16.3 and 16.4: the bytes of records. records/specs/Format.antt has the reading of a stream of them.
--
--   Job                 == the numbers of a job record: the neighbourhood, the start and the end
--   job_of nb a b       == the job with neighbourhood nb, start a and end b
--   map_bytes w h cells == a map record: 4D 50 hex, the sides, a byte for each cell
--   job_bytes j         == a job record: 4A 42 hex, the neighbourhood, both ends as 16-bit little-endian numbers
use Rattle.std.specs.Prelude.{ℕ, ◌/◌, ◌%◌, List, [], ◌∷◌}

pub record Job : Type 0 where
  pub neighbourhood : ℕ
  pub start : ℕ
  pub end : ℕ

abbrev pub job_of : ℕ → ℕ → ℕ → Job
job_of nb a b = record { neighbourhood = nb; start = a; end = b }

abbrev pub map_bytes : ℕ → ℕ → List ℕ → List ℕ
map_bytes w h cells = 0x4D ∷ 0x50 ∷ w ∷ h ∷ cells

abbrev pub job_bytes : Job → List ℕ
job_bytes j =
    0x4A ∷ 0x42 ∷ j.neighbourhood ∷ j.start % 256 ∷ j.start / 256 ∷ j.end % 256 ∷ j.end / 256 ∷ []
