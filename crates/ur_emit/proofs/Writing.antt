-- Nodes that are written one after the other.
use Rattle.std.proofs.Common.{◌≡◌, ℕ, ◌+◌, ◌≤◌, ◌<◌, max, List, [], ◌∷◌, ◌++◌, refl, sym, ap, subst, ◌∙◌, arith, length, drop, take, get_or, Bor}
use Rattle.std.proofs.lemmas.List.{take_more, drop_all, drop-append-le, length-take}
use Rattle.std.specs.List.{flat_map}
use Rattle.ur_values.specs.declared.value.Value.{Value}
use Rattle.ur_values.specs.declared.value.Node.{Node}
use Rattle.ur_values.specs.Size.{node_sizes, node_nestings}
use Rattle.ur_terms.specs.declared.term.Term.{Term}
use Rattle.ur_tags.specs.declared.routes.Handlers.{Handlers}
use Rattle.ur_tags.specs.Show.{show_node, show_nodes}
use Rattle.ur_emit.specs.declared.slots.Slot.{Slot}
use Rattle.ur_emit.specs.declared.slots.Slot.TheVariants as slot
use Rattle.ur_emit.specs.Makes.{Makes, MakeAll, MakeEach}
use Rattle.ur_emit.specs.Slots.{Adds, Written, Stand, Emits, EmitAll, EmitEach}
use Rattle.ur_emit.proofs.Makes.{sizes_of_both, nestings_of_both, all_more, each_more}

append_assoc : {A : Type 0} (xs ys zs : List A) → (xs ++ ys) ++ zs ≡ xs ++ (ys ++ zs)
append_assoc [] ys zs = refl
append_assoc (x ∷ xs) ys zs = ap (λ z. x ∷ z) (append_assoc xs ys zs)

append_nil : {A : Type 0} (xs : List A) → xs ++ [] ≡ xs
append_nil [] = refl
append_nil (x ∷ xs) = ap (λ z. x ∷ z) (append_nil xs)

shows_both : (h : Handlers) (xs ys : List Node) → show_nodes h (xs ++ ys) ≡ show_nodes h xs ++ show_nodes h ys
shows_both h [] ys = refl
shows_both h (x ∷ xs) ys = ap (λ z. show_node h x ++ z) (shows_both h xs ys) ∙ sym (append_assoc (show_node h x) (show_nodes h xs) (show_nodes h ys))

pub adds_none : (h : Handlers) (out : List ℕ) (room : ℕ) → Adds h [] out out room room 0
adds_none h out room = record { bytes = sym (append_nil out); size = omega arith; nesting = omega arith }

pub adds_both : (h : Handlers) (xs ys : List Node) (o p q : List ℕ) (r s u d e : ℕ) → Adds h xs o p r s d → Adds h ys p q s u e
    → Adds h (xs ++ ys) o q r u (max e d)
adds_both h xs ys o p q r s u d e a b =
    let one = sizes_of_both xs ys in
    let two = nestings_of_both xs ys in
    let three = a.size in let four = b.size in let five = a.nesting in let six = b.nesting in
    record {
      bytes = b.bytes ∙ ap (λ z. z ++ show_nodes h ys) a.bytes ∙ append_assoc o (show_nodes h xs) (show_nodes h ys)
          ∙ ap (λ z. o ++ z) (sym (shows_both h xs ys));
      size = omega arith;
      nesting = omega arith;
    }

pub none_yet : (h : Handlers) (slots : List Slot) (out : List ℕ) (room : ℕ) → EmitAll h slots [] out out room room 0
none_yet h slots out room env st = record { nodes = []; makes = refl; adds = adds_none h out room }

pub one_more : (h : Handlers) (slots : List Slot) (terms : List Term) (a : Term) (o p q : List ℕ) (r s u d e : ℕ) → EmitAll h slots terms o p r s d
    → Emits h slots a p q s u e
    → EmitAll h slots (terms ++ a ∷ []) o q r u (max e d)
one_more h slots terms a o p q r s u d e all one env st =
    let xs = all env st in
    let ys = one env st in
    record {
      nodes = xs.nodes ++ ys.nodes;
      makes = all_more env terms a xs.nodes ys.nodes xs.makes ys.makes;
      adds = adds_both h xs.nodes ys.nodes o p q r s u d e xs.adds ys.adds;
    }

pub no_item_yet : (h : Handlers) (slots : List Slot) (body : Term) (out : List ℕ) (room : ℕ) → EmitEach h slots body [] out out room room 0
no_item_yet h slots body out room env st = record { nodes = []; makes = refl; adds = adds_none h out room }

pub one_item_more : (h : Handlers) (slots : List Slot) (body : Term) (items : List Value) (s₁ : Slot) (x : Value) (o p q : List ℕ) (r s u d e : ℕ)
    → EmitEach h slots body items o p r s d
    → ((env : List Value) → Stand h slots env → Stand h (s₁ ∷ slots) (x ∷ env)) → Emits h (s₁ ∷ slots) body p q s u e
    → EmitEach h slots body (items ++ x ∷ []) o q r u (max e d)
one_item_more h slots body items s₁ x o p q r s u d e all stands one env st =
    let xs = all env st in
    let ys = one (x ∷ env) (stands env st) in
    record {
      nodes = xs.nodes ++ ys.nodes;
      makes = each_more env body items x xs.nodes ys.nodes xs.makes ys.makes;
      adds = adds_both h xs.nodes ys.nodes o p q r s u d e xs.adds ys.adds;
    }

-- the same, as a loop over items finds it: the item is the nearest variable while its XML is written
pub record ItemWritten (h : Handlers) (slots last : List Slot) (body : Term) (items : List Value) (o q : List ℕ) (r u deep : ℕ) : Type 0 where
  pub same : drop 1 last ≡ slots
  pub sofar : EmitEach h slots body items o q r u deep

pub item_written : (h : Handlers) (slots : List Slot) (body : Term) (items : List Value) (x : Value) (o p q : List ℕ) (r s u d e : ℕ) (b : Bor Value)
    (old pushed last : List Slot)
    → old ≡ slots → pushed ≡ slot.Value b ∷ old → b.now ≡ x → EmitEach h slots body items o p r s d → last ≡ pushed → Emits h pushed body p q s u e
    → ItemWritten h slots last body (items ++ x ∷ []) o q r u (max e d)
item_written h slots body items x o p q r s u d e b old pushed last same push is all kept one =
    let top : pushed ≡ slot.Value b ∷ slots = push ∙ ap (λ z. slot.Value b ∷ z) same in
    record {
      same = ap (drop 1) (kept ∙ top);
      sofar = one_item_more h slots body items (slot.Value b) x o p q r s u d e all (λ env st. (x, env, refl, is, st))
          (subst (λ z. Emits h z body p q s u e) top one);
    }

-- ---- the terms from one on

pub drop_none : {A : Type 0} (xs : List A) → drop 0 xs ≡ xs
drop_none [] = refl
drop_none (x ∷ xs) = refl

pub front_none : {A : Type 0} (from : ℕ) (xs : List A) → drop from (take from xs) ≡ []
front_none from xs = drop_all from (take from xs) (let long = length-take from xs in omega arith)

pub front_more : {A : Type 0} (from i : ℕ) (xs : List A) (x : A) → from ≤ i → i < length xs → x ≡ get_or xs i x
    → drop from (take (i + 1) xs) ≡ drop from (take i xs) ++ x ∷ []
front_more from i xs x behind within at =
    ap (drop from) (take_more xs i x within ∙ ap (λ z. take i xs ++ z ∷ []) (sym at))
    ∙ drop-append-le from (take i xs) (x ∷ []) (let long = length-take i xs in omega arith)
