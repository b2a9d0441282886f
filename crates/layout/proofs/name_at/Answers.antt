-- `layout::name_at` meets its contract: past the end, cut by the end, or whole.
use Rattle.layout.proofs.Texts.{text-none, text-cut, text-whole}
use Rattle.layout.proofs.name_at.Goals as goal

pub returns-then-bytes-at-clause-result_value : goal.returns-then-bytes-at-clause-result_value
returns-then-bytes-at-clause-result_value c =
    let a = c.args in
    text-none a.bytes.now a.at c.if-bytes-at.true

pub returns-then-bytes-to-clause-result_value : goal.returns-then-bytes-to-clause-result_value
returns-then-bytes-to-clause-result_value c =
    let a = c.args in
    (text-cut a.bytes.now a.at c.after_name-to.result c.after_name-to.ensures.value c.after_name-to.ensures.upper_bound c.if-bytes-to.true).0

pub returns-clause-result_value : goal.returns-clause-result_value
returns-clause-result_value c =
    let a = c.args in
    (text-whole a.bytes.now a.at c.after_name-to.result c.after_name-to.ensures.value c.after_name-to.ensures.upper_bound).0
