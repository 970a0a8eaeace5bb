-- Used by contracts between functions; nobody has to believe it: laws tie it to the definitions.
-- A segment on a floor, as the code has it.
--
--   floor_under s == the floor of the segment s
--   drawn s       == the segment s
use Rattle.floor.specs.Floor.{Floor}
use Rattle.floor.specs.Plan.{floor_on}
use Rattle.sight.specs.Sight.{Segment, segment_of}
use Rattle.sight.specs.declared.segment.Segment.{Segment as Drawn}

abbrev pub floor_under : Drawn → Floor
floor_under s = floor_on s.floor

abbrev pub drawn : Drawn → Segment
drawn s = segment_of s.x0 s.y0 s.x1 s.y1
