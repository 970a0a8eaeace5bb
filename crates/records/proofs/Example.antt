-- The example of docs/RULES.md, section 16: the stream that its input is read as, and the lines of its output.
use Prim.Native.Nat.{ℕ}
use mathlib.Core.Path.{◌≡◌, refl}
use mathlib.Core.List.{List, [], ◌∷◌, ◌++◌}
use mathlib.Core.Option.{some, none}
use Rattle.basics.specs.Bounded.{every}
use Rattle.records.specs.Format.{good_map, map_at, good_job, job_at, record_at, steps, stream_from, stream_of}
use Rattle.records.specs.Lines.{ascii, digits, decimal, fields, route_line, at_line}

abbrev pub input : List ℕ
input = 0x4D ∷ 0x50 ∷ 0x01 ∷ 0x01 ∷ 0x00 ∷ 0x4A ∷ 0x42 ∷ 0x04 ∷ 0x00 ∷ 0x00 ∷ 0x03 ∷ 0x00 ∷ []

pub example-read : stream_of input ≡ record {
  map = some record { wide = 1; high = 1; cells = 4 };
  jobs = record { number = 1; neighbourhood = 4; start = 0; end = 3 } ∷ [];
  bad = none;
}
unfolding every good_map map_at good_job job_at record_at steps stream_from stream_of
example-read = refl

pub example-lines : route_line 1 816 2 3 2 ++ at_line (0 ∷ 3 ∷ [])
    ≡ ascii "job 1: cost 816 routes 2 points 3 kept 2\nat 0 3\n"
unfolding digits decimal fields
example-lines = refl
