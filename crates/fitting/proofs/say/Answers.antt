-- `fitting::say` meets its contract: the text is measured, and written where it fits.
use native.Mathlib.Omega.{arith}
use Rattle.scope.specs.Report.{report}
use Rattle.fitting.proofs.Saying.{too_long, in_buffer}
use Rattle.fitting.proofs.say.Goals as goal

pub returns-in_default : goal.returns-in_default
returns-in_default c =
    let d = c.args.report.now in
    λ table f says. too_long (report table f) c.put.result _ d c.put.new.out (c.put.ensures table f says) (omega arith) c.fit-answer.result c.fit-answer.ensures _ _ c.in_default.is

pub returns-in-Report : goal.returns-in-Report
returns-in-Report c =
    let d = c.args.report.now in
    λ table f says. in_buffer (report table f) c.put.result _ d c.put.new.out (c.put.ensures table f says) (omega arith) c.fit-answer.result c.fit-answer.ensures _ c.put-in-Report.result c.put-in-Report.new.out c.in-Report.is (c.put-in-Report.ensures table f says)
