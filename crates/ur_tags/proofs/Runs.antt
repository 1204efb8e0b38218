-- Bytes that are written in runs: what each step leaves, and the whole at the end.
use Rattle.std.proofs.Common.{◌≡◌, ℕ, ◌+◌, ◌-◌, ◌≤◌, ◌<◌, List, [], ◌∷◌, ◌++◌, Option, Some, None, length, take, drop, get_or, refl, sym, ap, subst, ◌∙◌, append_assoc, append-nil, arith, Bor}
use Rattle.std.specs.Prelude.{MatchOption, option_map}
use Rattle.std.specs.List.{flat_map}
use Rattle.std.proofs.lemmas.List.{take_more, take_all, drop_all, drop-take, length-take, length-drop, drop-append-le, flat_map_more}
use Rattle.ur_tags.specs.Runs.{IsPiece, InRuns, LeadsOn}

-- ---- a step

-- the piece of a byte as its test gives it
pub piece_given : (piece_of : ℕ → List ℕ) (b : ℕ) (piece : Option (Bor (List ℕ))) → MatchOption piece (piece_of b ≡ b ∷ []) (λ p. p.now ≡ piece_of b)
    → IsPiece piece_of b (option_map (λ p. p.now) piece)
piece_given piece_of b None e = e
piece_given piece_of b (Some p) e = e

-- the run up to a place
run_is : (text : List ℕ) (from at : ℕ) → from ≤ at → drop from (take at text) ≡ take (at - from) (drop from text)
run_is text from at le = let on : from + (at - from) ≡ at = omega arith in ap (λ n. drop from (take n text)) (sym on) ∙ drop-take from (at - from) text

module _ (piece_of : ℕ → List ℕ) (start text : List ℕ) (from at : ℕ) (within : at < length text) where
  more_shown : flat_map piece_of (take (at + 1) text) ≡ flat_map piece_of (take at text) ++ piece_of (get_or text at 0)
  more_shown = ap (flat_map piece_of) (take_more text at 0 within) ∙ sym (flat_map_more piece_of [] (take at text) (get_or text at 0))

  -- the byte stands as it is: the run goes on
  run_goes_on : (out : List ℕ) → piece_of (get_or text at 0) ≡ get_or text at 0 ∷ [] → InRuns piece_of start text from at out
      → InRuns piece_of start text from (at + 1) out
  run_goes_on out plain runs =
      let short : from ≤ length (take at text) = omega (arith, length-take at text, runs.begins) in
      let longer : drop from (take (at + 1) text) ≡ drop from (take at text) ++ get_or text at 0 ∷ [] = ap (drop from) (take_more text at 0 within)
      ∙ drop-append-le from (take at text) (get_or text at 0 ∷ []) short in
      record {
        begins = omega (arith, runs.begins);
        within = runs.within;
        shown = ap (λ run. out ++ run) longer ∙ sym (append_assoc out (drop from (take at text)) (get_or text at 0 ∷ []))
            ∙ ap (λ o. o ++ get_or text at 0 ∷ []) runs.shown
            ∙ append_assoc start (flat_map piece_of (take at text)) (get_or text at 0 ∷ [])
            ∙ ap (λ p. start ++ (flat_map piece_of (take at text) ++ p)) (sym plain) ∙ ap (λ s. start ++ s) (sym more_shown);
      }

  -- a piece stands for the byte: the run is written, then the piece, and the next one begins behind it
  run_ends : (out out' run piece : List ℕ) → piece ≡ piece_of (get_or text at 0) → run ≡ take (at - from) (drop from text) → out' ≡ (out ++ run) ++ piece
      → InRuns piece_of start text from at out
      → InRuns piece_of start text (at + 1) (at + 1) out'
  run_ends out out' run piece is run' written runs =
      let none : drop (at + 1) (take (at + 1) text) ≡ [] = drop_all (at + 1) (take (at + 1) text) (omega (arith, length-take (at + 1) text)) in
      record {
        begins = omega arith;
        within = omega (arith, within);
        shown = ap (λ r. out' ++ r) none ∙ append-nil out' ∙ written ∙ ap (λ r. (out ++ r) ++ piece) (run' ∙ sym (run_is text from at runs.begins))
            ∙ ap (λ o. o ++ piece) runs.shown
            ∙ append_assoc start (flat_map piece_of (take at text)) piece ∙ ap (λ p. start ++ (flat_map piece_of (take at text) ++ p)) is
            ∙ ap (λ s. start ++ s) (sym more_shown);
      }

pub leads_on_none : (out text : List ℕ) (from at : ℕ) (piece : Option (Bor (List ℕ))) → at < length text → piece ≡ None
    → LeadsOn out out text from from at (option_map (λ p. p.now) piece)
leads_on_none out text from at piece within none piece_of start is runs =
    run_goes_on piece_of start text from at within out
    (subst (λ (o : Option (Bor (List ℕ))). IsPiece piece_of (get_or text at 0) (option_map (λ p. p.now) o)) none is) runs

pub leads_on_some : (out out₁ out₂ text run : List ℕ) (from at : ℕ) (piece : Option (Bor (List ℕ))) (p : Bor (List ℕ)) → at < length text → piece ≡ Some p
    → run ≡ take (at - from) (drop from text) → out₁ ≡ out ++ run
    → out₂ ≡ out₁ ++ p.now → LeadsOn out out₂ text from (at + 1) at (option_map (λ p. p.now) piece)
leads_on_some out out₁ out₂ text run from at piece p within some run' first second piece_of start is runs =
    run_ends piece_of start text from at within out out₂ run p.now
    (subst (λ (o : Option (Bor (List ℕ))). IsPiece piece_of (get_or text at 0) (option_map (λ p. p.now) o)) some is) run'
    (second ∙ ap (λ o. o ++ p.now) first) runs

-- ---- from the beginning to the end

pub runs_begin : (piece_of : ℕ → List ℕ) (start text : List ℕ) → InRuns piece_of start text 0 0 start
runs_begin piece_of start [] = record { begins = omega arith; within = omega arith; shown = refl }
runs_begin piece_of start (b ∷ text) = record { begins = omega arith; within = omega arith; shown = refl }

pub runs_end : (piece_of : ℕ → List ℕ) (start text out out' rest : List ℕ) (from at : ℕ) → length text ≤ at → InRuns piece_of start text from at out
    → rest ≡ take (length text - from) (drop from text) → out' ≡ out ++ rest
    → out' ≡ start ++ flat_map piece_of text
runs_end piece_of start text out out' rest from at past runs is written =
    let whole : take at text ≡ text = take_all at text past in
    let left : rest ≡ drop from (take at text) = is ∙ take_all (length text - from) (drop from text) (omega (arith, length-drop from text))
    ∙ ap (drop from) (sym whole) in
    written ∙ ap (λ r. out ++ r) left ∙ runs.shown ∙ ap (λ t. start ++ flat_map piece_of t) whole
