-- What is served, by the words that were read.
use Rattle.std.specs.Prelude.{ℕ, List, Option, Some, None, ⊤}
use Rattle.ur_words.specs.declared.reading.Reading.{Reading}
use Rattle.ur_words.specs.declared.reading.Reading.TheVariants.{Replay, Serve}
use Rattle.ur_words.specs.declared.reading.Settings.{Settings}

-- a project that is served, with how, and on how many connections at most
pub record Serving : Type 0 where
  pub project : List ℕ
  pub settings : Settings
  pub most : ℕ

abbrev pub serving : Option Reading → Option Serving
serving (Some (Replay p s)) = Some (record { project = p; settings = s; most = 1 })
serving (Some (Serve p port s n)) = Some (record { project = p; settings = s; most = n })
serving reading = None

-- P of what is served, where the words serve a project
abbrev pub IfServing : Option Serving → (Serving → Type 0) → Type 0
IfServing None P = ⊤
IfServing (Some s) P = P s

abbrev pub ForServing : Option Reading → (Serving → Type 0) → Type 0
ForServing reading P = IfServing (serving reading) P
