-- What the lists say of what is held.
use Rattle.std.proofs.Common.{◌≡◌, ◌≤◌, ◌↔◌, ℕ, zero, suc, List, [], ◌∷◌, ◌++◌, map, length, None, Some, Result, Ok, Err, IfOk, sym, ap, subst, ◌∙◌, arith, append-nil}
use Rattle.std.specs.Prelude.{slice_get, OnOk, OnErr}
use Rattle.std.proofs.lemmas.List.{map-append, length-map}
use Rattle.ur_rows.specs.declared.normal.Normal.{Normal}
use Rattle.ur_rows.specs.declared.normal.Normal.TheVariants as normal
use Rattle.ur_rows.specs.Made.{unit}
use Rattle.ur_meaning.specs.Instances.{Different}
use Rattle.ur_source.specs.Static.{static_record}
use Rattle.ur_unfold_static.specs.declared.con.Con.{Con}
use Rattle.ur_unfold_static.specs.declared.node.Lambda.{Lambda}
use Rattle.ur_unfold_static.specs.declared.node.Node.{Node}
use Rattle.ur_unfold_static.specs.declared.node.Node.TheVariants as node
use Rattle.ur_unfold_static.specs.Held.{Held, Written, static_of_node, NodeIsBelow, NodeFits, Grows}
use Rattle.ur_unfold_static.specs.Lists.{IsAbsent, constructors, written, all_written, most_entries}
use Rattle.ur_unfold_static.specs.Scopes.{IsAt}
use Rattle.ur_unfold_static.specs.Closing.{held_by, statics_by, nothing_held, IsSound}
use Rattle.ur_unfold_static.proofs.Laws.{grows_so, node_same}
use Rattle.ur_unfold_static.proofs.Sound.{sound_first, statics_length, held_node, no_node, statics_once, wider_grows, wider_sound, more_grows, more_sound}

few_map : {A B : Type 0} (f : A → B) (xs : List A) (most : ℕ) → length xs ≤ most → length (map f xs) ≤ most
few_map f xs most h = omega (arith, h, length-map xs f)

module _ (cs : List Con) (ls : List Lambda) (ns : List Node) (held : Held) (v : held_by (constructors cs) (all_written ls) ns ≡ held)
    (s : IsSound (constructors cs) (all_written ls) ns) where
  pub unit_is : IsAt held.cons 0 (normal.Type unit)
  unit_is = subst (λ (h : Held). IsAt h.cons 0 (normal.Type unit)) v s.first_con

  pub empty_is : IsAt held.statics 0 (static_record [])
  empty_is = subst (λ (h : Held). IsAt h.statics 0 (static_record [])) v (held_node (constructors cs) (all_written ls) ns s.rises 0 (node.Record []) s.first_node).1

  pub cons_once : Different held.cons
  cons_once = subst (λ (h : Held). Different h.cons) v s.different_cons

  pub all_statics_once : Different held.statics
  all_statics_once = subst (λ (h : Held). Different h.statics) v (statics_once (constructors cs) (all_written ls) ns s)

  pub node_is : (j : ℕ) (n : Node) → IsAt ns j n → NodeFits held n × IsAt held.statics j (static_of_node held n)
  node_is j n e = subst (λ (h : Held). NodeFits h n × IsAt h.statics j (static_of_node h n)) v (held_node (constructors cs) (all_written ls) ns s.rises j n e)

  pub node_none : (j : ℕ) → slice_get ns j ≡ None → slice_get held.statics j ≡ None
  node_none j e = subst (λ (h : Held). slice_get h.statics j ≡ None) v (no_node (constructors cs) (all_written ls) ns j e)

  pub fits_is : (n : Node) (a b c : ℕ) {B : Type 0} → a ≡ length cs → b ≡ length ls → c ≡ length ns → B ↔ NodeIsBelow a b c n → B ↔ NodeFits held n
  fits_is n a b c {B} p q r h =
      subst (λ (k : Held). B ↔ NodeFits k n) v
      (subst (λ (z : ℕ). B ↔ NodeIsBelow (length (constructors cs)) (length (all_written ls)) z n) (r ∙ sym (statics_length (constructors cs) (all_written ls) ns))
      (subst (λ (y : ℕ). B ↔ NodeIsBelow (length (constructors cs)) y c n) (q ∙ sym (length-map ls written))
      (subst (λ (x : ℕ). B ↔ NodeIsBelow x b c n) (p ∙ sym (length-map cs (λ (c : Con). c.of))) h)))

  -- ---- what is added

  pub con_grows : (new : List Con) → ((more : List Con) × (new ≡ cs ++ more)) → Grows held (held_by (constructors new) (all_written ls) ns)
  con_grows new g =
      subst (λ (h : Held). Grows h (held_by (constructors new) (all_written ls) ns)) v
      (wider_grows (constructors cs) (constructors g.0) (constructors new) (all_written ls) [] (all_written ls) ns
      (ap constructors g.1 ∙ map-append (λ (c : Con). c.of) cs g.0) (sym (append-nil (all_written ls))) s)

  pub con_sound : (new : List Con) → ((more : List Con) × (new ≡ cs ++ more)) → (Different (constructors cs) → Different (constructors new)) → length new ≤ most_entries
      → IsSound (constructors new) (all_written ls) ns
  con_sound new g once few =
      wider_sound (constructors cs) (constructors g.0) (constructors new) (all_written ls) [] (all_written ls) ns
      (ap constructors g.1 ∙ map-append (λ (c : Con). c.of) cs g.0) (sym (append-nil (all_written ls))) s (once s.different_cons) s.different_lambdas
      (few_map (λ (c : Con). c.of) new most_entries few) s.few_lambdas

  pub lambda_grows : (new : List Lambda) → ((more : List Written) × (all_written new ≡ all_written ls ++ more)) → Grows held (held_by (constructors cs) (all_written new) ns)
  lambda_grows new g =
      subst (λ (h : Held). Grows h (held_by (constructors cs) (all_written new) ns)) v
      (wider_grows (constructors cs) [] (constructors cs) (all_written ls) g.0 (all_written new) ns (sym (append-nil (constructors cs))) g.1 s)

  pub lambda_sound : (new : List Lambda) → ((more : List Written) × (all_written new ≡ all_written ls ++ more)) → (Different (all_written ls) → Different (all_written new))
      → length new ≤ most_entries → IsSound (constructors cs) (all_written new) ns
  lambda_sound new g once few =
      wider_sound (constructors cs) [] (constructors cs) (all_written ls) g.0 (all_written new) ns (sym (append-nil (constructors cs))) g.1 s
      s.different_cons (once s.different_lambdas) s.few_cons (few_map written new most_entries few)

  pub node_grows : (n : Node) (new : List Node) → new ≡ ns ++ n ∷ [] → Grows held (held_by (constructors cs) (all_written ls) new)
  node_grows n new e =
      subst (λ (h : Held). Grows h (held_by (constructors cs) (all_written ls) new)) v
      (more_grows (constructors cs) (all_written ls) ns new n e s)

  pub node_sound : (n : Node) (new : List Node) → new ≡ ns ++ n ∷ [] → IsAbsent ns n → NodeFits held n → length new ≤ most_entries → IsSound (constructors cs) (all_written ls) new
  node_sound n new e a f few =
      more_sound (constructors cs) (all_written ls) ns new n e s a (subst (λ (h : Held). NodeFits h n) (sym v) f) few

-- the number of a node that is new
pub new_node : (cs : List Con) (ls : List Lambda) (ns : List Node) (held : Held) (v : held_by (constructors cs) (all_written ls) ns ≡ held) (s : IsSound (constructors cs) (all_written ls) ns)
    (n : Node) (new : List Node) → new ≡ ns ++ n ∷ [] → IsAbsent ns n → NodeFits held n → length new ≤ most_entries → (j : ℕ) → IsAt new j n
    → IsAt (statics_by (constructors cs) (all_written ls) new) j (static_of_node held n)
new_node cs ls ns held v s n new e a f few j at =
    let sound = node_sound cs ls ns held v s n new e a f few in
    let there = held_node (constructors cs) (all_written ls) new sound.rises j n at in
    let same = node_same held (held_by (constructors cs) (all_written ls) new) (node_grows cs ls ns held v s n new e) n f in
    there.1 ∙ ap Some same

pub last_at : {A : Type 0} (xs : List A) (y : A) (j : ℕ) → j ≡ length xs → slice_get (xs ++ y ∷ []) j ≡ Some y
last_at [] y j e = ap (slice_get (y ∷ [])) e
last_at (x ∷ xs) y zero e = absurd (omega (arith, e))
last_at (x ∷ xs) y (suc j) e = last_at xs y j (omega (arith, e))

-- a node that is new, or no memory for it
module _ (cs : List Con) (ls : List Lambda) (ns : List Node) (held : Held) (v : held_by (constructors cs) (all_written ls) ns ≡ held) (s : IsSound (constructors cs) (all_written ls) ns)
    (n : Node) (new : List Node) (a : IsAbsent ns n) (f : NodeFits held n) (few : length ns ≤ most_entries → length new ≤ most_entries) where
  pub put_sound : {E : Type 0} (r : Result ℕ E) → OnOk r (new ≡ ns ++ n ∷ []) → OnErr r (new ≡ ns) → IsSound (constructors cs) (all_written ls) new
  put_sound (Ok j) ok err = node_sound cs ls ns held v s n new ok a f (few s.few_nodes)
  put_sound (Err e) ok err = subst (IsSound (constructors cs) (all_written ls)) (sym err) s

  pub put_grows : {E : Type 0} (r : Result ℕ E) → OnOk r (new ≡ ns ++ n ∷ []) → OnErr r (new ≡ ns) → Grows held (held_by (constructors cs) (all_written ls) new)
  put_grows (Ok j) ok err = node_grows cs ls ns held v s n new ok
  put_grows (Err e) ok err = subst (λ (xs : List Node). Grows held (held_by (constructors cs) (all_written ls) xs)) (sym err) (subst (Grows held) (sym v) (grows_so held))

  pub put_number : {E : Type 0} (r : Result ℕ E) → OnOk r (new ≡ ns ++ n ∷ []) → IfOk r (λ j. j ≡ length ns) → IfOk r (λ j. IsAt (statics_by (constructors cs) (all_written ls) new) j (static_of_node held n))
  put_number (Ok j) ok num = new_node cs ls ns held v s n new ok a f (few s.few_nodes) j (subst (λ (xs : List Node). IsAt xs j n) (sym ok) (last_at ns n j num))
  put_number (Err e) ok num = tt

-- ---- the beginning

pub first_sound : (cs : List Con) (ls : List Lambda) (ns : List Node) → constructors cs ≡ normal.Type unit ∷ [] → ls ≡ [] → ns ≡ node.Record [] ∷ []
    → IsSound (constructors cs) (all_written ls) ns
first_sound cs ls ns c l n =
    subst (λ (xs : List Normal). IsSound xs (all_written ls) ns) (sym c)
    (subst (λ (ms : List Node). IsSound (normal.Type unit ∷ []) (all_written ls) ms) (sym n)
    (subst (λ (ks : List Lambda). IsSound (normal.Type unit ∷ []) (all_written ks) (node.Record [] ∷ [])) (sym l) sound_first))

pub first_held : (cs : List Con) (ls : List Lambda) (ns : List Node) → constructors cs ≡ normal.Type unit ∷ [] → ls ≡ [] → ns ≡ node.Record [] ∷ []
    → held_by (constructors cs) (all_written ls) ns ≡ nothing_held
first_held cs ls ns c l n =
    ap (λ (xs : List Normal). held_by xs (all_written ls) ns) c ∙ ap (λ (ks : List Lambda). held_by (normal.Type unit ∷ []) (all_written ks) ns) l
    ∙ ap (held_by (normal.Type unit ∷ []) []) n

pub ruleset first = (first_sound, first_held)
