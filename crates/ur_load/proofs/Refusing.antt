-- Refusals of lines and of whole files.
use Rattle.std.proofs.Common.{◌≡◌, ◌∙◌, ℕ, ◌+◌, ◌-◌, ◌<◌, ◌≤◌, List, [], length, map, take, get_or, slice_range, refl, Result, Ok, Err, IsErrAnd, IsUtf8, codes, ap, sym, subst, arith}
use Rattle.std.specs.List.{suffix_len}
use Rattle.std.specs.Str.Lines.{lines}
use Rattle.std.proofs.lemmas.List.{take-map}
use Rattle.ur_base.specs.declared.refusal.Refusal.{Refusal}
use Rattle.ur_base.specs.declared.refusal.Stop.{Stop}
use Rattle.ur_base.specs.declared.refusal.Stop.TheVariants as stop
use Rattle.ur_base.specs.Stopping.{IfRefused}
use Rattle.ur_base.specs.declared.refusal.Span.{Span}
use Rattle.ur_load.specs.Lines.{is_empty, trimmed, line_ends, project_lines, without_last}
use Rattle.ur_load.specs.declared.lines.Line.{Line}
use Rattle.ur_load.specs.Placed.{texts, Stands, AreStanding, SaysLine, SaysLineOf, SaysWhole}
use Rattle.ur_load.specs.Project.{IsProject, IsBadLine, AreToName, AreModules, RefusesProject, SaysOfLine}
use Rattle.ur_load.proofs.Listed.{length_texts, front_item}

-- a fact of the refusal, if the stop is one
abbrev pub OfStop : Stop → (Refusal → Type 0) → Type 0
OfStop end P = IfRefused {A = Unit {0}} (Err end) P

-- an error that is passed on
pub passed : {B : Type 0} {R S : Refusal → Type 0} (end : Stop) (res : Result B Stop) → IsErrAnd res (λ y. y ≡ end) → OfStop end R → ((e : Stop) → OfStop e R → OfStop e S) → IfRefused res S
passed end (Ok x) is h f = tt
passed {B = B} {R = R} {S = S} end (Err e) is h f = by e (f e (subst (λ z. OfStop z R) (sym is) h)) where
  by : (e : Stop) → OfStop e S → IfRefused {A = B} (Err e) S
  by (stop.Refused r) k = k
  by stop.Memory k = tt

pub line_refused : (ls : List Line) (i : ℕ) (line : Line) (end : Stop) → i < length ls → line ≡ get_or ls i line → IsBadLine (texts ls) i line.text
    → SaysLineOf line end → OfStop end (SaysLine ls)
line_refused ls i line (stop.Refused r) h e b s = record { line = line; number = i; among = h; is = e; bad = b; says = s.0; place = s.1 }
line_refused ls i line stop.Memory h e b s = tt

-- the lines up to the last that is not empty
pub lines_are : (bytes : List ℕ) (found : List Line) (n : ℕ) → n ≡ length found - suffix_len is_empty (texts found) → texts found ≡ map trimmed (lines bytes) → texts (take n found) ≡ project_lines bytes
lines_are bytes found n e t = sym (take-map (λ (l : Line). l.text) n found) ∙ ap (λ k. take k (texts found)) (e ∙ ap (λ k. k - suffix_len is_empty (texts found)) (sym (length_texts found))) ∙ ap (without_last is_empty) t

-- the lines of the file, each at its place
pub record Ready (bytes : List ℕ) (ls : List Line) : Type 0 where
  pub are : texts ls ≡ project_lines bytes
  pub places : AreStanding bytes ls

places_of : (bytes : List ℕ) (found : List Line) (n : ℕ) → n ≤ length found → AreStanding bytes found → AreStanding bytes (take n found)
places_of bytes found n h a i line below is = let item = front_item found n i line h below is in a i line item.within item.is

pub ready : (bytes : List ℕ) (found a b : List Line) (n : ℕ) → a ≡ found → b ≡ found → n ≤ length a → n ≡ length a - suffix_len is_empty (texts a) → texts found ≡ map trimmed (lines bytes) → AreStanding bytes found → Ready bytes (take n b)
ready bytes found a b n e f h k t p = rw f (record {
  are = lines_are bytes found n (subst (λ l. n ≡ length l - suffix_len is_empty (texts l)) e k) t;
  places = places_of bytes found n (subst (λ l. n ≤ length l) e h) p;
})

says_of : (bytes : List ℕ) (ls : List Line) (r : Refusal) → Ready bytes ls → (s : SaysLine ls r) → SaysOfLine bytes s.number s.line.text r
says_of bytes ls r h s = let st : Stands bytes s.number s.line = h.places s.number s.line s.among s.is in record {
  says = s.says;
  file = ap (λ (p : Span). p.file) s.place ∙ st.file;
  before = ap (λ (p : Span). line_ends (take p.«from» bytes)) s.place ∙ st.before;
  ends = ap (λ (p : Span). p.to) s.place ∙ st.ends ∙ ap (λ (p : Span). p.«from» + length s.line.text) (sym s.place);
  within = subst (λ (p : Span). p.to ≤ length bytes) (sym s.place) st.within;
  place = ap (λ (p : Span). slice_range bytes p.«from» p.to) s.place ∙ st.place;
}

pub file_refused : (file bytes : List ℕ) (ls : List Line) (end : Stop) → Ready bytes ls → IsUtf8 bytes → OfStop end (SaysLine ls) → OfStop end (RefusesProject file bytes)
file_refused file bytes ls (stop.Refused r) h u s = RefusesProject.bad_line s.number s.line.text u (subst (λ l. IsBadLine l s.number s.line.text) h.are s.bad) (says_of bytes ls r h s)
file_refused file bytes ls stop.Memory h u s = tt

-- at the begin of the file stands an empty line
says_empty : (bytes : List ℕ) (r : Refusal) → SaysWhole 1 [] [] (stop.Refused r) → SaysOfLine bytes 0 [] r
says_empty bytes r s = record {
  says = s.0;
  file = ap (λ (p : Span). p.file) s.1;
  before = ap (λ (p : Span). line_ends (take p.«from» bytes)) s.1;
  ends = ap (λ (p : Span). p.to) s.1 ∙ ap (λ (p : Span). p.«from» + 0) (sym s.1);
  within = subst (λ (p : Span). p.to ≤ length bytes) (sym s.1) (omega arith);
  place = ap (λ (p : Span). slice_range bytes p.«from» p.to) s.1;
}

pub not_text_refused : (file bytes : List ℕ) (end : Stop) → (IsUtf8 bytes → ⊥) → SaysWhole 3 file [] end → OfStop end (RefusesProject file bytes)
not_text_refused file bytes (stop.Refused r) n s = RefusesProject.not_text n s
not_text_refused file bytes stop.Memory n s = tt

pub none_refused : (file bytes : List ℕ) (ls modules : List (List ℕ)) (end : Stop) → IsUtf8 bytes → ls ≡ project_lines bytes → AreToName ls modules → modules ≡ [] → SaysWhole 1 [] [] end
    → OfStop end (RefusesProject file bytes)
none_refused file bytes ls modules (stop.Refused r) u t n e s = RefusesProject.bad_line 0 [] u (IsBadLine.no_modules (project_lines bytes) 0 refl (subst (AreToName (project_lines bytes)) e (subst (λ l. AreToName l modules) t n))) (says_empty bytes r s)
none_refused file bytes ls modules stop.Memory u t n e s = tt

pub project_is : (bytes : List ℕ) (ls modules : List (List ℕ)) → IsUtf8 bytes → ls ≡ project_lines bytes → AreToName ls modules → AreModules modules → (modules ≡ [] → ⊥) → IsProject bytes modules
project_is bytes ls modules u t n a e = record { text = u; named = subst (λ l. AreToName l modules) t n; fit = a; some = e }

pub many_refused : (file bytes : List ℕ) (modules : List (List ℕ)) (end : Stop) → IsProject bytes modules → 64 < length modules → SaysWhole 20 (codes "modules") (codes "64") end
    → OfStop end (RefusesProject file bytes)
many_refused file bytes modules (stop.Refused r) p m s = RefusesProject.too_many modules p m s
many_refused file bytes modules stop.Memory p m s = tt
