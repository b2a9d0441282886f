-- `block::print::print` meets its contract: the report stands in the buffer already; a refusal is written over it.
use native.Mathlib.Nat.{le_trans}
use Rattle.block.proofs.Printing.{checked_as, report-prints, report-fits, refusal-prints}
use Rattle.block.proofs.print.print.Goals as goal

pub returns-in-Report : goal.returns-in-Report
returns-in-Report c =
    record { prints = report-prints c.args.file.now c.args.scratch.now c.args.out.now c.check.new.report c.check.new.scratch c.in-Report.long (checked_as c.in-Report.is c.check.ensures); upper_bound = λ l. report-fits c.args.file.now c.args.scratch.now c.args.out.now c.check.new.report c.check.new.scratch c.in-Report.long (checked_as c.in-Report.is c.check.ensures) }

pub returns-in-Refused : goal.returns-in-Refused
returns-in-Refused c =
    record { prints = refusal-prints c.args.file.now c.args.scratch.now c.args.out.now c.check.new.report c.check.new.scratch c.in-Refused.number c.in-Refused.line c.put_refusal.result c.put_refusal.new.out (checked_as c.in-Refused.is c.check.ensures) c.put_refusal.ensures.wrote; upper_bound = λ l. le_trans c.put_refusal.ensures.upper_bound l }
