-- What is left makes the table of the whole.
use Rattle.std.proofs.Common.{◌≡◌, drop}
use Rattle.ur_keeper_bodies.specs.Lines.{read_words, read_table}
use Rattle.ur_keeper_bodies.proofs.text.table.Given as goal

abbrev pub invariant-loop-word : goal.invariant-loop-word
invariant-loop-word l = read_words l.line (drop l.word-index l.rest) ≡ read_table l.words
