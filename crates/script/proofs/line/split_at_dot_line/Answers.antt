use Rattle.std.proofs.Common.{◌<◌, length, sym, arith, true-eqb, false-eqb}
use Rattle.script.proofs.Dots.{found, none_left, first_dot, no_dot}
use Rattle.script.proofs.line.split_at_dot_line.Goals as goal

pub returns-then-is_dot_line : goal.returns-then-is_dot_line
returns-then-is_dot_line c =
    let some : 0 < length c.loop-rest.rest.now = omega (arith, false-eqb _ 0 c.loop-rest-test.ensures) in
    let here = found c.args.bytes.now c.loop-rest.rest.now _ c.split_line.result.1.now some c.split_line.ensures (sym c.if-is_dot_line.ensures) c.loop-rest.invariant in
    record { exact = here; first = first_dot c.args.bytes.now _ _ here }

pub returns : goal.returns
returns c =
    let bytes = c.args.bytes.now in
    let none = none_left bytes c.loop-rest.rest.now (true-eqb _ 0 c.loop-rest-test.ensures) c.loop-rest.invariant in
    record { exact = none; first = no_dot bytes none }
