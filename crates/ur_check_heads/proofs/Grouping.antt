-- The functions of a group and the constructors of a datatype, one after the other.
use Rattle.std.proofs.Common.{◌≡◌, refl, ap, sym, ◌∙◌, subst, ℕ, List, [], ◌∷◌, Option, Some}
use Rattle.std.specs.Prelude.{option_and_then}
use Rattle.ur_base.specs.declared.refusal.Refusal.{Refusal}
use Rattle.ur_syntax.specs.declared.con.Con.{Con}
use Rattle.ur_syntax.specs.declared.decl.FunDef.{FunDef}
use Rattle.ur_syntax.specs.declared.decl.Variant.{Variant as WrittenVariant}
use Rattle.ur_rows.specs.declared.normal.NormalType.{NormalType}
use Rattle.ur_typed_rules.specs.Faults.{Fault}
use Rattle.ur_check_scopes.specs.Views.{Refuses}
use Rattle.ur_typed.specs.Project.{names_at}
use Rattle.ur_typed.specs.Declaring.{Sofar, Heading, datatype_names, heading_out, headings_out, with_head, with_constructor, variant_out, variants_out}
use Rattle.ur_typed.specs.DeclFaults.{BreaksHeading, BreaksHeadings, this_heading, later_heading, BreaksArgument, BreaksVariants, this_variant, later_variant}
use Rattle.ur_check_heads.specs.declared.project.Project.{Project}
use Rattle.ur_check_heads.specs.Views.{Sees, Comes}
use Rattle.ur_check_heads.proofs.Seeing.{comes}

-- ---- functions

-- what is declared behind the functions so far, and what comes of those that are left
pub record Group (home : ℕ) (all : List FunDef) (z y : Sofar) (left : List FunDef) : Type 0 where
  pub out : headings_out 65536 home all z ≡ headings_out 65536 home left y
  pub broken : (c : Fault) → BreaksHeadings 65536 home left y c → BreaksHeadings 65536 home all z c
  pub names : datatype_names y ≡ datatype_names z

abbrev pub Grouped : Project → Project → List FunDef → List FunDef → Type 0
Grouped p now all left = (home : ℕ) (z : Sofar) → Sees p home z → (y : Sofar) × Sees now home y × Group home all z y left

pub group-start : (p : Project) (all left : List FunDef) → left ≡ all → Grouped p p all left
group-start p all left e = λ home z s. (z, s, record { out = ap (λ fs. headings_out 65536 home fs z) (sym e); broken = λ c b. subst (λ fs. BreaksHeadings 65536 home fs z c) e b; names = refl })

pub group-past : (p now next : Project) (all left rest : List FunDef) (f : FunDef) → left ≡ f ∷ rest →
    ((home : ℕ) (z : Sofar) → Sees now home z → (w : Heading) × (heading_out 65536 (names_at z.place) f ≡ Some w) × Sees next home (with_head home f z w)) → Grouped p now all left → Grouped p next all rest
group-past p now next all left rest f e step g = λ home z s.
    let h = g home z s in
    let w = step home h.0 h.1 in (
      with_head home f h.0 w.0,
      w.2,
      record {
        out = h.2.out ∙ ap (λ fs. headings_out 65536 home fs h.0) e ∙ ap (option_and_then (λ (x : Heading). headings_out 65536 home rest (with_head home f h.0 x))) w.1;
        broken = λ c b. h.2.broken c (subst (λ fs. BreaksHeadings 65536 home fs h.0 c) (sym e) (later_heading w.1 b));
        names = h.2.names;
      },
    )

pub group-broken : (p now : Project) (all left rest : List FunDef) (f : FunDef) (r : Refusal) → left ≡ f ∷ rest → Grouped p now all left →
    ((home : ℕ) (z : Sofar) → Sees now home z → Refuses (datatype_names z) (BreaksHeading (datatype_names z) 65536 (names_at z.place) f) r) →
    (home : ℕ) (z : Sofar) → Sees p home z → Refuses (datatype_names z) (BreaksHeadings 65536 home all z) r
group-broken p now all left rest f r e g h = λ home z s.
    let k = g home z s in
    let t : Refuses (datatype_names k.0) (BreaksHeading (datatype_names k.0) 65536 (names_at k.0.place) f) r = h home k.0 k.1 in
    subst (λ ns. Refuses ns (BreaksHeadings 65536 home all z) r) k.2.names (t.0, k.2.broken t.0 (subst (λ fs. BreaksHeadings 65536 home fs k.0 t.0) (sym e) (this_heading t.1)), t.2)

pub group-end : (p now : Project) (all left : List FunDef) → left ≡ [] → Grouped p now all left → (home : ℕ) (z : Sofar) → Sees p home z → Comes now home (headings_out 65536 home all z)
group-end p now all left e g = λ home z s. let h = g home z s in comes now home (headings_out 65536 home all z) h.0 (h.2.out ∙ ap (λ fs. headings_out 65536 home fs h.0) e) h.1

-- ---- constructors

pub record Listing (datatype : ℕ) (all : List WrittenVariant) (z y : Sofar) (left : List WrittenVariant) : Type 0 where
  pub out : variants_out 65536 datatype all z ≡ variants_out 65536 datatype left y
  pub broken : (c : Fault) → BreaksVariants 65536 datatype left y c → BreaksVariants 65536 datatype all z c
  pub names : datatype_names y ≡ datatype_names z

abbrev pub Listed : ℕ → Project → Project → List WrittenVariant → List WrittenVariant → Type 0
Listed datatype p now all left = (home : ℕ) (z : Sofar) → Sees p home z → (y : Sofar) × Sees now home y × Listing datatype all z y left

pub list-start : (datatype : ℕ) (p : Project) (all left : List WrittenVariant) → left ≡ all → Listed datatype p p all left
list-start datatype p all left e = λ home z s. (z, s, record { out = ap (λ vs. variants_out 65536 datatype vs z) (sym e); broken = λ c b. subst (λ vs. BreaksVariants 65536 datatype vs z c) e b; names = refl })

pub list-past : (datatype : ℕ) (p now next : Project) (all left rest : List WrittenVariant) (v : WrittenVariant) (a : Option NormalType) → left ≡ v ∷ rest →
    ((home : ℕ) (z : Sofar) (d : ℕ) → Sees now home z → variant_out 65536 d v.name v.con z ≡ Some (with_constructor d v.name a z)) → ((home : ℕ) (z : Sofar) → Sees now home z → Sees next home (with_constructor datatype v.name a z)) →
    Listed datatype p now all left → Listed datatype p next all rest
list-past datatype p now next all left rest v a e out seen g = λ home z s.
    let h = g home z s in (
      with_constructor datatype v.name a h.0,
      seen home h.0 h.1,
      record {
        out = h.2.out ∙ ap (λ vs. variants_out 65536 datatype vs h.0) e ∙ ap (option_and_then (variants_out 65536 datatype rest)) (out home h.0 datatype h.1);
        broken = λ c b. h.2.broken c (subst (λ vs. BreaksVariants 65536 datatype vs h.0 c) (sym e) (later_variant (out home h.0 datatype h.1) b));
        names = h.2.names;
      },
    )

pub list-broken : (datatype : ℕ) (p now : Project) (all left rest : List WrittenVariant) (v : WrittenVariant) (r : Refusal) → left ≡ v ∷ rest → Listed datatype p now all left →
    ((home : ℕ) (z : Sofar) → Sees now home z → Refuses (datatype_names z) (λ f. (c : Con) × (v.con ≡ Some c) × BreaksArgument 65536 z c f) r) →
    (home : ℕ) (z : Sofar) → Sees p home z → Refuses (datatype_names z) (BreaksVariants 65536 datatype all z) r
list-broken datatype p now all left rest v r e g h = λ home z s.
    let k = g home z s in
    let t : Refuses (datatype_names k.0) (λ f. (c : Con) × (v.con ≡ Some c) × BreaksArgument 65536 k.0 c f) r = h home k.0 k.1 in
    subst (λ ns. Refuses ns (BreaksVariants 65536 datatype all z) r) k.2.names (t.0, k.2.broken t.0 (subst (λ vs. BreaksVariants 65536 datatype vs k.0 t.0) (sym e) (this_variant t.1.1 t.1.2)), t.2)

pub list-end : (datatype : ℕ) (p now : Project) (all left : List WrittenVariant) → left ≡ [] → Listed datatype p now all left → (home : ℕ) (z : Sofar) → Sees p home z → Comes now home (variants_out 65536 datatype all z)
list-end datatype p now all left e g = λ home z s. let h = g home z s in comes now home (variants_out 65536 datatype all z) h.0 (h.2.out ∙ ap (λ vs. variants_out 65536 datatype vs h.0) e) h.1
