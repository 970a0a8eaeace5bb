-- A floor plan, as the code has it.
--
--   floor_on p == the floor of the plan p
use Rattle.floor.specs.Floor.{Floor, floor_of}
use Rattle.floor.specs.declared.plan.FloorPlan.{FloorPlan}

abbrev pub floor_on : FloorPlan → Floor
floor_on p = floor_of p.w p.h p.map.now
