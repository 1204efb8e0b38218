-- What the calls of a wire in memory change of what it tells.
use Rattle.std.proofs.Common.{◌≡◌, ℕ, ◌+◌, ◌-◌, ◌<◌, ◌≤◌, min, true, false, nat_lt, if◌then◌else◌, subst, List, [], ◌∷◌, ◌++◌, length, take, drop, get_or, map, Some, refl, sym, ap, ◌∙◌, arith, add-one, drop-cons, length-append}
use Rattle.std.proofs.Math.Seq.{take-add, take-append_seam}
use Rattle.std.proofs.lemmas.Bool.Decides.{nat_tests}
use Rattle.std.proofs.lemmas.List.{get_or-take, take-append-le, drop-drop, length-take-le, nil_from_length}
use Rattle.ur_base.specs.FaultPlans.{after_ok}
use Rattle.ur_io.specs.Memory.{WireState, traffic_of, joined, pieces_at, last_input, next_piece, after_open, after_next, after_take}
use Rattle.ur_io.specs.Traffic.{Opens, Reads}
use Rattle.ur_io.proofs.Inputs.{piece_is_front, none_left}

last_opened : (connections : List (List (List ℕ))) (opened : ℕ) → pieces_at connections (opened + 1) ≡ get_or connections opened []
last_opened connections opened =
    let last : (opened + 1) - 1 ≡ opened = omega arith in
    let within : opened < opened + 1 = omega arith in
    ap (λ k. get_or (take (opened + 1) connections) k []) last ∙ get_or-take (opened + 1) connections opened [] within

opens : (w : WireState) → w.opened < length w.connections → Opens (traffic_of w) true (Some (traffic_of (after_open w)))
opens w within =
    let first = get_or w.connections w.opened [] in
    let rest = drop (w.opened + 1) w.connections in
    let split : drop w.opened w.connections ≡ first ∷ rest = rw (add-one, drop-cons w.connections w.opened []) refl in
    let left : joined (pieces_at w.connections (w.opened + 1)) ≡ joined first = ap joined (last_opened w.connections w.opened) in (
      joined first,
      map joined rest,
      ap (map joined) split,
      ap (λ input. Some (record { coming = map joined rest; taken = []; left = input; given = w.given ++ [] ∷ [] })) left,
    )

pub next_opens : (w : WireState) → w.opened < length w.connections → after_next w ≡ after_open w
next_opens w within =
    let more : nat_lt w.opened (length w.connections) ≡ true = grind (arith, nat_tests) in
    ap (λ b. if b then after_open w else record w { is_current = false; plan = after_ok w.plan }) more

pub opens_next : (w : WireState) → w.opened < length w.connections → Opens (traffic_of w) true (Some (traffic_of (after_next w)))
opens_next w within = subst (λ s. Opens (traffic_of w) true (Some (traffic_of s))) (sym (next_opens w within)) (opens w within)

pub reads_piece : (w : WireState) (n : ℕ) (old new : List ℕ) → 0 < length old → n ≡ min (length old) (length (next_piece w)) →
    new ≡ take n (next_piece w) ++ drop n old → Reads (traffic_of w) n new (Some (traffic_of (after_take w n)))
reads_piece w n old new room count buffer =
    let piece = next_piece w in
    let input = last_input w in
    let pieces = pieces_at w.connections w.opened in
    let front = piece_is_front w.taken pieces in
    let held : n ≤ length piece = omega arith in
    let all : length (take n piece) ≡ n = length-take-le n piece held in
    let whole : length (take n piece) ≤ length (take n piece) = omega arith in
    let taken : take n new ≡ take n piece =
    ap (take n) buffer ∙ ap (λ k. take k (take n piece ++ drop n old)) (sym all) ∙
    take-append_seam (take n piece) (drop n old) in
    let left : take n (drop w.taken input) ≡ take n piece = ap (take n) front.1 ∙ take-append-le n piece front.0 held in
    record {
      within = omega (arith, ap length front.1, length-append piece front.0);
      bytes = taken ∙ sym left;
      ended = λ none.
          let empty : length piece ≡ 0 = omega arith in
          none_left w.taken pieces (nil_from_length piece empty);
      after =
          ap (λ front. Some (record { coming = map joined (drop w.opened w.connections); taken = front; left = drop (w.taken + n) input; given = w.given }))
          (take-add w.taken n input) ∙
          ap (λ rest. Some (record { coming = map joined (drop w.opened w.connections); taken = take w.taken input ++ take n (drop w.taken input); left = rest; given = w.given }))
          (sym (drop-drop n w.taken input));
    }
