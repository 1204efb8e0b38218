-- Lines with their places.
use Rattle.std.specs.Prelude.{◌≡◌, ℕ, ◌+◌, ◌<◌, ◌≤◌, List, [], length, map, take, get_or, slice_range, ⊤}
use Rattle.ur_base.specs.declared.refusal.Refusal.{Refusal}
use Rattle.ur_base.specs.declared.refusal.Stop.{Stop}
use Rattle.ur_base.specs.declared.refusal.Stop.TheVariants as stop
use Rattle.ur_base.specs.Stopping.{Says}
use Rattle.ur_load.specs.declared.lines.Line.{Line}
use Rattle.ur_load.specs.Lines.{line_ends}
use Rattle.ur_load.specs.Project.{IsBadLine, SaysOfFile}

-- what the lines are
abbrev pub texts : List Line → List (List ℕ)
texts lines = map (λ line. line.text) lines

-- the line stands at its place, behind as many ends of lines as its number
pub record Stands (bytes : List ℕ) (number : ℕ) (line : Line) : Type 0 where
  pub file : line.span.file ≡ 0
  pub before : line_ends (take line.span.«from» bytes) ≡ number
  pub ends : line.span.to ≡ line.span.«from» + length line.text
  pub within : line.span.to ≤ length bytes
  pub place : slice_range bytes line.span.«from» line.span.to ≡ line.text

-- the lines stand at their places
abbrev pub AreStanding : List ℕ → List Line → Type 0
AreStanding bytes lines = (i : ℕ) (line : Line) → i < length lines → line ≡ get_or lines i line → Stands bytes i line

-- the refusal speaks of the first of the lines that is wrong
pub record SaysLine (lines : List Line) (r : Refusal) : Type 0 where
  pub line : Line
  pub number : ℕ
  pub among : number < length lines
  pub is : line ≡ get_or lines number line
  pub bad : IsBadLine (texts lines) number line.text
  pub says : Says r 1 line.text []
  pub place : r.span ≡ line.span

-- the answer is the refusal of this line, or want of memory
abbrev pub SaysLineOf : Line → Stop → Type 0
SaysLineOf line (stop.Refused r) = Says r 1 line.text [] × (r.span ≡ line.span)
SaysLineOf line stop.Memory = ⊤

-- the answer is this refusal, which speaks of no line, or want of memory
abbrev pub SaysWhole : ℕ → List ℕ → List ℕ → Stop → Type 0
SaysWhole code left right (stop.Refused r) = SaysOfFile code left right r
SaysWhole code left right stop.Memory = ⊤
