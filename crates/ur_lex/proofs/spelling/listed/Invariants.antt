use Rattle.std.proofs.Common.{◌≡◌, length}
use Rattle.ur_lex.specs.Scanning.{keywords_in, listed_keyword}
use Rattle.ur_lex.proofs.spelling.listed.Given as goal

abbrev pub invariant-loop-table : goal.invariant-loop-table
invariant-loop-table l = listed_keyword (keywords_in l.table) l.word ≡ listed_keyword (keywords_in l.initial.table) l.word

abbrev pub decreases-loop-table : goal.decreases-loop-table
decreases-loop-table l = length l.table
