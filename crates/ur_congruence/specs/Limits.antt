-- How many terms a closure has at most.
use Rattle.std.specs.Prelude.{ℕ}

abbrev pub most_terms : ℕ
most_terms = 65536
