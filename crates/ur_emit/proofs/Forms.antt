-- What is written of each form.
use Rattle.std.proofs.Common.{◌≡◌, ℕ, ◌+◌, ◌≤◌, ◌<◌, min, Bool, true, false, if◌then◌else◌, List, [], ◌∷◌, ◌++◌, length, drop, Some, None, Result, Ok, Err}
use Rattle.std.proofs.Common.{IfOk, refl, sym, ap, subst, ◌∙◌, arith, ◌-◌, Bor}
use Rattle.ur_values.specs.declared.types.ValueType.{ValueType}
use Rattle.ur_values.specs.declared.value.Value.{Value}
use Rattle.ur_values.specs.declared.value.Value.TheVariants as v
use Rattle.ur_values.specs.declared.value.Node.{Node}
use Rattle.ur_values.specs.declared.value.Node.TheVariants as n
use Rattle.ur_values.specs.declared.value.Tag.{Tag}
use Rattle.std.proofs.lemmas.Bool.Decides.{nat_tests}
use Rattle.ur_values.specs.Size.{size, nesting, node_sizes, node_nestings}
use Rattle.ur_values.proofs.Equations.{size-Element, nesting-Element, size-Markup, nesting-Markup}
use Rattle.ur_terms.specs.declared.term.Op.TheVariants as op
use Rattle.ur_terms.specs.declared.term.Branch.{Branch}
use Rattle.ur_terms.specs.declared.term.Term.{Term}
use Rattle.ur_terms.specs.declared.term.Term.TheVariants as t
use Rattle.ur_terms.specs.Values.{shown}
use Rattle.ur_tags.specs.declared.routes.Handlers.{Handlers}
use Rattle.ur_tags.specs.Show.{element, show_node, show_nodes}
use Rattle.ur_tags.proofs.Equations.{show_node-Element}
use Rattle.std.specs.Prelude.{slice_get}
use Rattle.ur_emit.specs.declared.slots.Chunk.{Chunk}
use Rattle.ur_emit.specs.declared.slots.Slot.{Slot}
use Rattle.ur_emit.specs.declared.slots.Slot.TheVariants as slot
use Rattle.ur_emit.proofs.InPlace.{stands_at}
use Rattle.ur_emit.specs.Makes.{Makes, MakeAll, MakeEach, MakesCase, ReadAll}
use Rattle.ur_emit.specs.Slots.{Adds, Written, Stand, IsSlot, Emits, EmitAll, EmitEach, EmitsCase, Finds, Binds, ComesTo, ComesToEach, ComesToSlot}
use Rattle.ur_emit.proofs.Makes.{sizes_of_one, makes-Text, makes-Shown, makes-Element, makes-Markup, makes-If, makes-Each, makes-Variable, makes-Let}
use Rattle.ur_emit.proofs.Makes.{makes-Case}

pub if_ok : {A E : Type 0} (r : Result A E) (P Q : A → Type 0) → ((x : A) → P x → Q x) → IfOk r P → IfOk r Q
if_ok (Ok x) P Q f h = f x h
if_ok (Err e) P Q f h = tt

pub no_items : {A : Type 0} (xs : List A) → length xs < 1 → xs ≡ []
no_items [] h = refl
no_items (x ∷ xs) h = absurd (omega arith)

append_nil : {A : Type 0} (xs : List A) → xs ++ [] ≡ xs
append_nil [] = refl
append_nil (x ∷ xs) = ap (λ z. x ∷ z) (append_nil xs)

module _ (h : Handlers) (slots : List Slot) where
  -- the same term
  pub emits_along : (a b : Term) (o p : List ℕ) (r s d : ℕ) → a ≡ b → Emits h slots b o p r s d → Emits h slots a o p r s d
  emits_along a b o p r s d e w = subst (λ z. Emits h slots z o p r s d) (sym e) w

  pub emits_text : (text : List ℕ) (args : List Term) (o p : List ℕ) (r s d : ℕ) → args ≡ [] → Adds h (n.Text text ∷ []) o p r s d
      → Emits h slots (t.Make (op.Text text) args) o p r s d
  emits_text text args o p r s d e a env st = record {
    nodes = n.Text text ∷ [];
    makes = subst (λ z. Makes env (t.Make (op.Text text) z) (n.Text text ∷ [])) (sym e) (makes-Text env text);
    adds = a;
  }

  pub emits_shown : (a : Term) (x : Value) (args : List Term) (o p : List ℕ) (r s d : ℕ) → args ≡ a ∷ [] → Finds slots a x
      → (text : List ℕ) × (shown x ≡ Some text) × Adds h (n.Text text ∷ []) o p r s d → Emits h slots (t.Make op.Shown args) o p r s d
  emits_shown a x args o p r s d e f (text, is, adds) env st = record {
    nodes = n.Text text ∷ [];
    makes = subst (λ z. Makes env (t.Make op.Shown z) (n.Text text ∷ [])) (sym e) (makes-Shown env a x text (f h env st) is);
    adds = adds;
  }

  pub emits_element : (tag : Tag) (args : List Term) (o o3 o4 o5 : List ℕ) (r r1 r2 within deep : ℕ)
      → ((inner : List ℕ) → o4 ≡ o3 ++ inner → o5 ≡ o ++ element tag inner) → 32 + r1 ≡ r → deep ≡ within + 1 → EmitAll h slots args o3 o4 r1 r2 within
      → Emits h slots (t.Make (op.Element tag) args) o o5 r r2 deep
  emits_element tag args o o3 o4 o5 r r1 r2 within deep bytes room nests all env st =
      let w = all env st in
      let one = sizes_of_one (n.Element tag w.nodes) in
      let two = size-Element tag w.nodes in
      let three = nesting-Element tag w.nodes in
      let four = w.adds.size in
      let five = w.adds.nesting in
      record {
        nodes = n.Element tag w.nodes ∷ [];
        makes = makes-Element env tag args w.nodes w.makes;
        adds = record {
          bytes = bytes (show_nodes h w.nodes) w.adds.bytes
              ∙ ap (λ z. o ++ z) (sym (append_nil (show_node h (n.Element tag w.nodes)) ∙ show_node-Element h tag w.nodes));
          size = omega arith;
          nesting = omega arith;
        };
      }

  pub emits_void : (tag : Tag) (args : List Term) (o p : List ℕ) (r s : ℕ) → args ≡ [] → p ≡ o ++ element tag [] → 32 + s ≡ r
      → Emits h slots (t.Make (op.Element tag) args) o p r s 1
  emits_void tag args o p r s e bytes room env st =
      let one = sizes_of_one (n.Element tag []) in
      let two = size-Element tag [] in
      let three = nesting-Element tag [] in
      record {
        nodes = n.Element tag [] ∷ [];
        makes = subst (λ z. Makes env (t.Make (op.Element tag) z) (n.Element tag [] ∷ [])) (sym e) (makes-Element env tag [] [] refl);
        adds = record {
          bytes = bytes ∙ ap (λ z. o ++ z) (sym (append_nil (show_node h (n.Element tag [])) ∙ show_node-Element h tag []));
          size = omega arith;
          nesting = omega arith;
        };
      }

  pub emits_markup : (of : ValueType) (args : List Term) (o p : List ℕ) (r s d : ℕ) → EmitAll h slots args o p r s d
      → Emits h slots (t.Make (op.Markup of) args) o p r s d
  emits_markup of args o p r s d all env st =
      let w = all env st in
      record { nodes = w.nodes; makes = makes-Markup env of args w.nodes w.makes; adds = w.adds }

  pub emits_if : (q a b : Term) (truth : Bool) (o p : List ℕ) (r s d : ℕ) → Finds slots q (v.Bool truth) → Emits h slots (if truth then a else b) o p r s d
      → Emits h slots (t.If q a b) o p r s d
  emits_if q a b truth o p r s d f e env st =
      let w = e env st in
      record { nodes = w.nodes; makes = makes-If env q a b truth w.nodes (f h env st) w.makes; adds = w.adds }

  pub emits_each : (rows body : Term) (items : List Value) (o p : List ℕ) (r s d : ℕ) → Finds slots rows (v.Many items) → EmitEach h slots body items o p r s d
      → Emits h slots (t.Each rows body) o p r s d
  emits_each rows body items o p r s d f e env st =
      let w = e env st in
      record { nodes = w.nodes; makes = makes-Each env rows body items w.nodes (f h env st) w.makes; adds = w.adds }

-- what is written within the room may be built
pub written_comes : (h : Handlers) (slots : List Slot) (a : Term) (bytes : List ℕ) (room size deep : ℕ) → size ≡ 16777184 - room → deep ≤ 1023
    → Emits h slots a [] bytes 16777184 room deep → ComesTo h slots a (record { bytes = bytes; size = size; nesting = deep })
written_comes h slots a bytes room size deep taken small e env st =
    let w = e env st in
    let one = w.adds.size in
    let two = w.adds.nesting in
    (v.Markup w.nodes, (w.nodes, refl, w.adds.bytes, omega arith, w.adds.nesting), w.makes (omega arith, omega arith))

pub items_come : (h : Handlers) (slots : List Slot) (body : Term) (items : List Value) (bytes : List ℕ) (room size deep : ℕ) → size ≡ 16777184 - room
    → deep ≤ 1023
    → EmitEach h slots body items [] bytes 16777184 room deep → ComesToEach h slots body items (record { bytes = bytes; size = size; nesting = deep })
items_come h slots body items bytes room size deep taken small e env st =
    let w = e env st in
    let one = w.adds.size in
    let two = w.adds.nesting in
    (w.nodes, (w.nodes, refl, w.adds.bytes, omega arith, w.adds.nesting), w.makes, (omega arith, omega arith))

-- a variable whose XML is written already
pub emits_variable : (h : Handlers) (slots : List Slot) (i : ℕ) (s : Slot) (c : Chunk) (o p : List ℕ) (r u : ℕ) → Some s ≡ slice_get slots i
    → s ≡ slot.Chunk c → p ≡ o ++ c.bytes → c.size + u ≡ r
    → Emits h slots (t.Variable i) o p r u c.nesting
emits_variable h slots i s c o p r u at is bytes room env st =
    let k = stands_at h slots env i s st (sym at) in
    let (nodes, x, shows, size, nesting) = subst (λ z. IsSlot h z k.value) is k.is in
    record {
      nodes = nodes;
      makes = makes-Variable env i nodes (k.at ∙ ap Some x);
      adds = record { bytes = bytes ∙ ap (λ z. o ++ z) shows; size = omega arith; nesting = nesting };
    }

-- XML that is built
pub emits_built : (h : Handlers) (slots : List Slot) (i : ℕ) (s : Slot) (b : Bor Value) (o p : List ℕ) (r u d : ℕ) → Some s ≡ slice_get slots i
    → s ≡ slot.Value b
    → (nodes : List Node) × (b.now ≡ v.Markup nodes) × Adds h nodes o p r u d → Emits h slots (t.Variable i) o p r u d
emits_built h slots i s b o p r u d at is (nodes, markup, adds) env st =
    let k = stands_at h slots env i s st (sym at) in
    let same : b.now ≡ k.value = subst (λ z. IsSlot h z k.value) is k.is in
    record { nodes = nodes; makes = makes-Variable env i nodes (k.at ∙ ap Some (sym same ∙ markup)); adds = adds }

module _ (h : Handlers) (slots : List Slot) where
  -- a `let` of one value
  pub emits_let : (args : List Term) (body : Term) (slots' : List Slot) (o p : List ℕ) (r u d : ℕ) → Binds h slots args slots'
      → Emits h slots' body o p r u d → Emits h slots (t.Let args body) o p r u d
  emits_let args body slots' o p r u d b e env st =
      let (x, is, reads) = b.comes env st in
      let w = subst (λ z. Emits h z body o p r u d) b.on_top e (x ∷ env) (x, env, refl, is, st) in
      record {
        nodes = w.nodes;
        makes = makes-Let env args body (x ∷ []) w.nodes (subst (λ l. ReadAll env l (x ∷ [])) (sym b.only) (x, [], refl, reads, refl)) w.makes;
        adds = w.adds;
      }

  -- the variables behind a `let` of one value
  pub let_slots : (args : List Term) (slots' slots₁ last : List Slot) → Binds h slots args slots' → slots₁ ≡ slots' → last ≡ drop 1 slots₁ → last ≡ slots
  let_slots args slots' slots₁ last b same dropped = dropped ∙ ap (drop 1) (same ∙ b.on_top)

  pub emits_case : (q : Term) (bs : List Branch) (x : Value) (o p : List ℕ) (r u d : ℕ) → Finds slots q x → EmitsCase h slots bs x o p r u d
      → Emits h slots (t.Case q bs) o p r u d
  emits_case q bs x o p r u d f e env st =
      let w = e env st in
      record { nodes = w.nodes; makes = makes-Case env q bs x w.makes.branch w.makes.bound w.nodes (f h env st) w.makes.chosen w.makes.makes; adds = w.adds }

  -- a value where it stands, and XML that is written
  pub slot_found : (a : Term) (b : Bor Value) → Finds slots a b.now → ComesToSlot h slots a (slot.Value b)
  slot_found a b f env st = (b.now, refl, f h env st)

  pub slot_written : (a : Term) (c : Chunk) → ComesTo h slots a c → ComesToSlot h slots a (slot.Chunk c)
  slot_written a c f env st = f env st

  pub binds_one : (args : List Term) (a : Term) (s : Slot) (slots₁ slots' : List Slot) → args ≡ a ∷ [] → slots₁ ≡ slots → slots' ≡ s ∷ slots₁
      → ComesToSlot h slots a s → Binds h slots args slots'
  binds_one args a s slots₁ slots' only same top comes = record { arg = a; slot = s; only = only; on_top = top ∙ ap (λ z. s ∷ z) same; comes = comes }

-- nodes of XML that is built were written; a value has at least their size and nesting
pub built_adds : (h : Handlers) (x : Value) (nodes : List Node) (taken deep : ℕ) (o p : List ℕ) (r u : ℕ) → x ≡ v.Markup nodes
    → taken ≡ min (size x) 18446744073709551615 → taken ≤ 16777184 → deep ≡ min (nesting x) 4294967295 → deep ≤ 1024
    → p ≡ o ++ show_nodes h nodes → taken + u ≡ r → (ns : List Node) × (x ≡ v.Markup ns) × Adds h ns o p r u deep
built_adds h x nodes taken deep o p r u is sized fits nested low bytes room =
    let one : size x ≡ 32 + node_sizes nodes = ap size is ∙ size-Markup nodes in
    let two : nesting x ≡ 1 + node_nestings nodes = ap nesting is ∙ nesting-Markup nodes in
    (nodes, is, record { bytes = bytes; size = grind (arith, nat_tests); nesting = grind (arith, nat_tests) })
