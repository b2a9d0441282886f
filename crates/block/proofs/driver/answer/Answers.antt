-- `block::driver::answer` meets its contract: the first fault of reading, else what is answered for the block.
use mathlib.Core.Path.{refl, sym, subst}
use lib.ListN.{length}
use Rattle.scope.specs.declared.Answer.{Answer}
use Rattle.scope.specs.Blocks.{Block, parsed}
use Rattle.scope.specs.Answer.{outcome, outcome_of}
use Rattle.fitting.specs.Given.{Given}
use Rattle.judging.specs.Blocks.{Slices, Holds, Known}
use Rattle.reading.specs.Said.{held_by}
use Rattle.block.proofs.Held.{handed-lent}
use Rattle.block.proofs.Outcomes.{known_read, block-given, fault-given}
use Rattle.block.proofs.driver.answer.Goals as goal

pub judged-requires-clause-known : goal.judged-requires-clause-known
judged-requires-clause-known c =
    subst Known (handed-lent c.read.new.store c.in-Ok.parsed.clauses c.lend.result c.lend-b.result c.lend-b.ensures.types c.lend.ensures.bytes c.lend.ensures.kinds c.lend.ensures.counts c.lend.ensures.arities c.lend.ensures.starts c.lend.ensures.names c.lend.ensures.labels c.lend-b.ensures.nodes c.lend-b.ensures.left) (known_read c.args.file.now (held_by c.read.new.store) c.read.result c.read.ensures c.in-Ok.parsed c.in-Ok.is)

pub returns-in-Err-clause-given : goal.returns-in-Err-clause-given
returns-in-Err-clause-given c =
    subst (λ (a : Answer). Given (outcome c.args.file.now (length c.args.scratch.now) (length c.args.report.now)) a c.args.report.now c.args.report.now) (sym c.refused.ensures) (fault-given c.args.file.now (held_by c.read.new.store) c.read.result c.read.ensures c.in-Err.fault c.in-Err.is (length c.args.scratch.now) c.args.report.now c.args.report.now c.requires refl)

pub returns-in-Ok-clause-given : goal.returns-in-Ok-clause-given
returns-in-Ok-clause-given c =
    block-given c.args.file.now (held_by c.read.new.store) c.read.result c.read.ensures c.in-Ok.parsed c.in-Ok.is (length c.args.scratch.now) c.args.report.now c.judged.result c.judged.new.report c.requires (subst (λ (s : Slices). (b : Block) → Holds s b → Given (outcome_of (length c.args.report.now) (parsed b)) c.judged.result c.args.report.now c.judged.new.report) (sym (handed-lent c.read.new.store c.in-Ok.parsed.clauses c.lend.result c.lend-b.result c.lend-b.ensures.types c.lend.ensures.bytes c.lend.ensures.kinds c.lend.ensures.counts c.lend.ensures.arities c.lend.ensures.starts c.lend.ensures.names c.lend.ensures.labels c.lend-b.ensures.nodes c.lend-b.ensures.left)) c.judged.ensures.given)
