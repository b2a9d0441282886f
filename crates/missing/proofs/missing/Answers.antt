-- `missing::missing` meets its contract: the clauses' rows are copied and walked, the scratch is cleared, and where the work is too much the buffer too.
use Rattle.missing.proofs.Driver.{first-opened, done-leaves, over-leaves}
use mathlib.Core.Path.{sym, ◌∙◌}
use Rattle.missing.proofs.missing.Goals as goal

pub collect_missing_patterns-r-requires-clause-opened : goal.collect_missing_patterns-r-requires-clause-opened
collect_missing_patterns-r-requires-clause-opened c =
    let a = c.args in
    let b = c.args.b.now in
    let h = c.requires in
    first-opened b.types.bytes.now b.nodes.now b.left.now b.types.counts.now b.types.arities.now a.starts.now h.sizes h.starts a.s.now c.copy.new.s h.starts_len_bound.0 h.starts_len_bound.1 c.copy.ensures

pub returns-then-is_err : goal.returns-then-is_err
returns-then-is_err c =
    let a = c.args in
    let b = c.args.b.now in
    let h = c.requires in
    let w = c.collect_missing_patterns-r in
    let all = over-leaves b.types.bytes.now b.nodes.now b.left.now b.types.counts.now b.types.arities.now a.starts.now h.sizes h.starts a.s.now c.copy.new.s h.starts_len_bound.0 h.starts_len_bound.1 c.copy.ensures w.ensures (c.fill.ensures.after (λ y e. e)) w.auto.s h.starts_len_bound.2 (sym c.is_err.ensures.value ∙ c.if-is_err.true) (c.fill-then-is_err.ensures.after (λ y e. e)) in
    record { result_value = all.0; out_after = all.1.0; s_after = all.1.1.0; finds_all = all.1.1.1 }

pub returns-else-is_err : goal.returns-else-is_err
returns-else-is_err c =
    let a = c.args in
    let b = c.args.b.now in
    let h = c.requires in
    let w = c.collect_missing_patterns-r in
    let all = done-leaves b.types.bytes.now b.nodes.now b.left.now b.types.counts.now b.types.arities.now a.starts.now h.sizes h.starts a.s.now c.copy.new.s h.starts_len_bound.0 h.starts_len_bound.1 c.copy.ensures w.ensures (c.fill.ensures.after (λ y e. e)) w.auto.s h.starts_len_bound.2 (sym c.is_err.ensures.value ∙ c.if-is_err.false) in
    record { result_value = all.0; out_after = all.1.0; s_after = all.1.1.0; finds_all = all.1.1.1 }
