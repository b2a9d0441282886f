-- `unfolding compute` opens every definition that a file's answer goes through, so that the answer computes.
use Rattle.scope.specs.Lists.{same, twice}
use Rattle.scope.specs.Lines.{lines, is_hex, hex, unhex, is_line}
use Rattle.scope.specs.Finite.{refs_good, rounds, all_finite}
use Rattle.scope.specs.Simplify.{simplified, simplify}
use Rattle.scope.specs.Frames.{is_small, is_big, big_name, small_name, is_decimal, type_frame, constructor_frame, pattern, patterns_in, patterns, frame}
use Rattle.scope.specs.Blocks.{stands, has_room, is_fresh, is_sound, enter, framed, line_step, parse, block_of}
use Rattle.scope.specs.Walks.{column, is_useful_step, collect_missing_step, is_useful_in, collect_missing_in, cost, is_useful, collect_missing_patterns}
use Rattle.scope.specs.Text.{decimal, contains, look, pretty_step, pretty_in, pretty_at}
use Rattle.scope.specs.Driver.{judged, findings, too_much}
use Rattle.scope.specs.Report.{report}
use Rattle.scope.specs.Answer.{fitted, walked, outcome_of, outcome, program_prints}

unfoldable pub compute : Unit {0}
unfolding same twice lines is_hex hex unhex is_line refs_good rounds all_finite simplified simplify is_small is_big big_name small_name is_decimal type_frame constructor_frame pattern patterns_in patterns frame stands has_room is_fresh is_sound enter framed line_step parse block_of column is_useful_step collect_missing_step is_useful_in collect_missing_in cost is_useful collect_missing_patterns decimal contains look pretty_step pretty_in pretty_at judged findings too_much report fitted walked outcome_of outcome program_prints
compute = tt
