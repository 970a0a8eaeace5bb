-- `checker::judge` meets its contract: the tests of the two kinds of sheet are exact. Assumes nothing.
use Rattle.paths.specs.Sheet.{sheet_in}
use Rattle.checker.specs.Tests.{CheckInput}
use Rattle.checker.proofs.Judged.{judged-input, judged-route, judged-no_route, judged-false}
use Rattle.checker.proofs.judge.Goals.{Else-not-sheet_sized}
use Rattle.checker.proofs.judge.Goals as goal

input : (c : Else-not-sheet_sized)
    → let a = c.args in
    CheckInput a.floor.w a.floor.h a.floor.map.now a.dirs a.a.0 a.b.0 (sheet_in a.sheet)
input c =
    let a = c.args in
    judged-input a.floor.w a.floor.h a.floor.map.now a.dirs a.a.0 a.b.0 (sheet_in a.sheet) _ c.vertex_count.ensures.0
    c.sheet_sized.ensures c.if-not-sheet_sized.false c.requires

pub is_route-requires : goal.is_route-requires
is_route-requires c = input c

pub returns-then-is_route : goal.returns-then-is_route
returns-then-is_route c =
    let a = c.args in
    judged-route a.floor.w a.floor.h a.floor.map.now a.dirs a.a.0 a.b.0 (sheet_in a.sheet) _ c.vertex_count.ensures.0
    c.sheet_sized.ensures c.if-not-sheet_sized.false c.requires c.is_route.ensures.1 c.is_route.ensures.0
    c.if-is_route.true

pub is_no_route-requires : goal.is_no_route-requires
is_no_route-requires c = input (goal.at.is_no_route-requires c).Else-not-sheet_sized

pub returns-then-is_no_route : goal.returns-then-is_no_route
returns-then-is_no_route c =
    let a = c.args in
    judged-no_route a.floor.w a.floor.h a.floor.map.now a.dirs a.a.0 a.b.0 (sheet_in a.sheet) _ c.vertex_count.ensures.0
    c.sheet_sized.ensures c.if-not-sheet_sized.false c.requires c.is_route.ensures.1 c.is_route.ensures.0
    c.if-is_route.false c.is_no_route.ensures c.if-is_no_route.true

pub returns : goal.returns
returns c =
    let a = c.args in
    judged-false a.floor.w a.floor.h a.floor.map.now a.dirs a.a.0 a.b.0 (sheet_in a.sheet) _ c.vertex_count.ensures.0
    c.sheet_sized.ensures c.if-not-sheet_sized.false c.requires c.is_route.ensures.1 c.is_route.ensures.0
    c.if-is_route.false c.is_no_route.ensures c.if-is_no_route.false
