-- A declaration, with its bodies, as the functions give it, is one by the rules.
use Rattle.std.proofs.Common.{◌≡◌, ◌∙◌, sym, ap, subst, Some, List, [], ◌∷◌, ◌++◌, ℕ, length}
use Rattle.std.specs.Prelude.{slice_get}
use Rattle.std.specs.List.{AllByRecursion}
use Rattle.ur_syntax.specs.declared.con.Con.{Con}
use Rattle.ur_syntax.specs.declared.decl.Decl.{Decl}
use Rattle.ur_syntax.specs.declared.decl.DeclForm.{DeclForm}
use Rattle.ur_syntax.specs.declared.decl.DeclForm.TheVariants as decl
use Rattle.ur_syntax.specs.declared.decl.FunDef.{FunDef}
use Rattle.ur_syntax.specs.declared.exp.Exp.{Exp as WrittenExp}
use Rattle.ur_tree.specs.declared.exp.Exp.{Exp}
use Rattle.ur_tree.specs.declared.typed.Typed.{Typed}
use Rattle.ur_tree.specs.Heads.{declared_of}
use Rattle.ur_tree.specs.App.{VariantIsTyped, ValIsTyped}
use Rattle.ur_typed_rules.proofs.Options.{some_of}
use Rattle.ur_typed.specs.Project.{Place, names_at, FunctionsResolve, DeclResolves}
use Rattle.ur_typed.specs.Project as project
use Rattle.ur_typed.specs.Typed.{HasNoBody, AreBodies, all_occurrences}
use Rattle.ur_typed.specs.Typed as source
use Rattle.ur_typed.specs.Declaring.{Sofar, Bodies, decl_out, bodies_out}
use Rattle.ur_typed_laws.specs.Judged.{Numbered, TypedIsSound}
use Rattle.ur_typed_laws.proofs.Numbers.{numbered_none, numbered_end}
use Rattle.ur_typed_laws.proofs.Holding.{Holds, Tallied, Grows}
use Rattle.ur_typed_laws.proofs.Kinding.{FormIsPlain}
use Rattle.ur_typed_laws.proofs.Declaring.{Declares, con_told, type_told, datatype_told, table_told, sequence_told, cookie_told}
use Rattle.ur_typed_laws.proofs.Walking.{Widens}
use Rattle.ur_typed_laws.proofs.SoundLawsBodying.{HoldsBodies, FunctionsTyped, ValsTyped, one_more, HeadsStand, GroupHeads, headings_told, group_counts, GroupGoes, group_goes, ValGoes, val_grown, val_counts, val_goes}

-- ---- counts

-- as many are declared, and as many bodies are there, as the place counts
pub record Counts (z : Sofar) (b : Bodies) : Type 0 where
  pub tallied : Tallied z
  pub functions : length b.functions ≡ z.place.functions
  pub vals : length b.vals ≡ z.place.vals

pub decl_grows : (app : Typed) (most home : ℕ) (d : DeclForm) (z y : Sofar) → decl_out most home d z ≡ Some y → Grows app z y
decl_grows app most home (decl.Con x k c) z y h = (con_told app most home x k c z y h).grows
decl_grows app most home (decl.Type x c) z y h = (type_told app most home x c z y h).grows
decl_grows app most home (decl.Datatype x vs) z y h = (datatype_told app most home x vs z y h).grows
decl_grows app most home (decl.Table x c primary cs) z y h = (table_told app most home x c primary cs z y h).grows
decl_grows app most home (decl.Sequence x) z y h = (sequence_told app most home x z y h).grows
decl_grows app most home (decl.Cookie x c) z y h = (cookie_told app most home x c z y h).grows
decl_grows app most home (decl.Val x c e) z y h = val_grown app most x c z y h
decl_grows app most home (decl.Fun fs) z y h = (headings_told app most home fs z y h).grows

same_counts : {app : Typed} {most home : ℕ} {d : DeclForm} {z y : Sofar} (b c : Bodies) → Declares app most home d z y → Some b ≡ Some c → Counts z b → Counts y c
same_counts b c d h k = record {
  tallied = d.grows.tallied k.tallied;
  functions = ap (λ u. length u.functions) (sym (some_of h)) ∙ (k.functions ∙ sym d.functions);
  vals = ap (λ u. length u.vals) (sym (some_of h)) ∙ (k.vals ∙ sym d.vals);
}

pub decl_counts : (app : Typed) (most home : ℕ) (d : DeclForm) (z y : Sofar) (b c : Bodies) → decl_out most home d z ≡ Some y → bodies_out most d z y b ≡ Some c → Counts z b → Counts y c
decl_counts app most home (decl.Con x k w) z y b c h i n = same_counts b c (con_told app most home x k w z y h) i n
decl_counts app most home (decl.Type x w) z y b c h i n = same_counts b c (type_told app most home x w z y h) i n
decl_counts app most home (decl.Datatype x vs) z y b c h i n = same_counts b c (datatype_told app most home x vs z y h) i n
decl_counts app most home (decl.Table x w primary cs) z y b c h i n = same_counts b c (table_told app most home x w primary cs z y h) i n
decl_counts app most home (decl.Sequence x) z y b c h i n = same_counts b c (sequence_told app most home x z y h) i n
decl_counts app most home (decl.Cookie x w) z y b c h i n = same_counts b c (cookie_told app most home x w z y h) i n
decl_counts app most home (decl.Val x w e) z y b c h i n =
    let k = val_counts most x w e z y b c h i n.functions n.vals in record { tallied = (val_grown app most x w z y h).tallied n.tallied; functions = k.0; vals = k.1 }
decl_counts app most home (decl.Fun fs) z y b c h i n =
    let g : GroupHeads app most home fs z y = headings_told app most home fs z y h in
    let k = group_counts most y fs b c z.place.functions i n.functions in
    record { tallied = g.grows.tallied n.tallied; functions = k.0 ∙ sym g.functions; vals = ap length k.1 ∙ (n.vals ∙ sym g.vals) }

-- ---- a step

-- what is typed of a source up to a place
pub record TypedTo (app : Typed) (most : ℕ) (z : Sofar) : Type 0 where
  pub variants : AllByRecursion (VariantIsTyped app) z.variants
  pub functions : FunctionsTyped app most z.place.functions
  pub vals : ValsTyped app most z.place.vals

pub record Goes (app : Typed) (most home : ℕ) (form : DeclForm) (z y : Sofar) (b c : Bodies) : Type 0 where
  pub resolves : DeclResolves app most home z.place form y.place
  pub own : List Exp
  pub bodies : (d : Decl) → d.form ≡ form → (ds : List Decl) (g v : ℕ) (rest : List Exp) → AreBodies app y.place.functions y.place.vals ds g v rest → AreBodies app z.place.functions z.place.vals (d ∷ ds) g v (own ++ rest)
  pub numbered : Numbered b.sites (all_occurrences own) c.sites
  pub typed : TypedTo app most z → TypedTo app most y
  pub held : HoldsBodies app b

from_counts : (app : Typed) {f f' v v' : ℕ} {ds : List Decl} {g w : ℕ} {rest : List Exp} → f ≡ f' → v ≡ v' → AreBodies app f v ds g w rest → AreBodies app f' v' ds g w rest
from_counts app {f} {f'} {v} {v'} {ds} {g} {w} {rest} i j r = subst (λ n. AreBodies app n v' ds g w rest) i (subst (λ n. AreBodies app f n ds g w rest) j r)

passed : (app : Typed) (most home : ℕ) (form : DeclForm) (z y : Sofar) (b c : Bodies) → HasNoBody form → Declares app most home form z y → Some b ≡ Some c → Holds app y → Tallied z → slice_get app.modules home ≡ Some z.place.globals.home → HoldsBodies app c → Goes app most home form z y b c
passed app most home form z y b c n d e h t m k = record {
  resolves = d.resolves h t m;
  own = [];
  bodies = λ x i ds g v rest r. source.AreBodies.other (subst HasNoBody (sym i) n) (from_counts app d.functions d.vals r);
  numbered = subst (λ (u : Bodies). Numbered b.sites [] u.sites) (some_of e) (numbered_none b.sites);
  typed = λ s. record { variants = d.typed h t s.variants; functions = subst (FunctionsTyped app most) (sym d.functions) s.functions; vals = subst (ValsTyped app most) (sym d.vals) s.vals };
  held = subst (HoldsBodies app) (sym (some_of e)) k;
}

val_steps : TypedIsSound → (app : Typed) (most home : ℕ) (x : List ℕ) (w : Con) (e : WrittenExp) (z y : Sofar) (b c : Bodies) → Widens app most z → decl_out most home (decl.Val x w e) z ≡ Some y → bodies_out most (decl.Val x w e) z y b ≡ Some c → Holds app y → Counts z b → HoldsBodies app c →
    Goes app most home (decl.Val x w e) z y b c
val_steps sound app most home x w e z y b c wide h i hold n held =
    let g : ValGoes app most home x w e z y b c = val_goes sound app most home x w e z y b c wide h i hold n.tallied held n.vals in
    record {
      resolves = g.resolves;
      own = g.right.body ∷ [];
      bodies = λ d q ds f v rest r. source.AreBodies.val (subst source.IsVal (sym q) source.IsVal.val) g.got (from_counts app g.functions g.vals r);
      numbered = numbered_end g.numbered;
      typed = λ s. record {
        variants = subst (AllByRecursion (VariantIsTyped app)) (sym g.variants) s.variants;
        functions = subst (FunctionsTyped app most) (sym g.functions) s.functions;
        vals = subst (ValsTyped app most) (sym g.vals) (one_more (λ k d. ValIsTyped (declared_of app) most k d) app.vals z.place.vals g.right g.got g.typed s.vals);
      };
      held = g.held;
    }

group_steps : TypedIsSound → (app : Typed) (most home : ℕ) (fs : List FunDef) (z y : Sofar) (b c : Bodies) → Widens app most y → decl_out most home (decl.Fun fs) z ≡ Some y → bodies_out most (decl.Fun fs) z y b ≡ Some c → Holds app y → Counts z b → FormIsPlain (decl.Fun fs) → HoldsBodies app c →
    Goes app most home (decl.Fun fs) z y b c
group_steps sound app most home fs z y b c wide h i hold n plain held =
    let g : GroupHeads app most home fs z y = headings_told app most home fs z y h in
    let hs : HeadsStand app most home (names_at y.place) z.place.functions fs = subst (λ u. HeadsStand app most home u z.place.functions fs) (sym g.names) (g.stand hold n.tallied) in
    let k : GroupGoes app most home y.place z.place.functions fs b c = group_goes sound app most home y wide z.place.functions fs hs plain b c n.functions i held in
    record {
      resolves = project.DeclResolves.functions g.named k.resolve;
      own = k.own;
      bodies = λ d q ds f v rest r. source.AreBodies.functions q k.functions (from_counts app g.functions g.vals r);
      numbered = k.numbered;
      typed = λ s. record {
        variants = subst (AllByRecursion (VariantIsTyped app)) (sym g.variants) s.variants;
        functions = subst (FunctionsTyped app most) (sym g.functions) (k.typed s.functions);
        vals = subst (ValsTyped app most) (sym g.vals) s.vals;
      };
      held = k.held;
    }

pub decl_goes : TypedIsSound → (app : Typed) (most home : ℕ) (d : DeclForm) (z y : Sofar) (b c : Bodies) → Widens app most z → Widens app most y → decl_out most home d z ≡ Some y → bodies_out most d z y b ≡ Some c → Holds app y → Counts z b → slice_get app.modules home ≡ Some z.place.globals.home → FormIsPlain d →
    HoldsBodies app c → Goes app most home d z y b c
decl_goes sound app most home (decl.Con x k w) z y b c wz wy h i hold n m plain held = passed app most home (decl.Con x k w) z y b c source.HasNoBody.con (con_told app most home x k w z y h) i hold n.tallied m held
decl_goes sound app most home (decl.Type x w) z y b c wz wy h i hold n m plain held = passed app most home (decl.Type x w) z y b c source.HasNoBody.type_ (type_told app most home x w z y h) i hold n.tallied m held
decl_goes sound app most home (decl.Datatype x vs) z y b c wz wy h i hold n m plain held = passed app most home (decl.Datatype x vs) z y b c source.HasNoBody.datatype (datatype_told app most home x vs z y h) i hold n.tallied m held
decl_goes sound app most home (decl.Table x w primary cs) z y b c wz wy h i hold n m plain held = passed app most home (decl.Table x w primary cs) z y b c source.HasNoBody.table (table_told app most home x w primary cs z y h) i hold n.tallied m held
decl_goes sound app most home (decl.Sequence x) z y b c wz wy h i hold n m plain held = passed app most home (decl.Sequence x) z y b c source.HasNoBody.sequence (sequence_told app most home x z y h) i hold n.tallied m held
decl_goes sound app most home (decl.Cookie x w) z y b c wz wy h i hold n m plain held = passed app most home (decl.Cookie x w) z y b c source.HasNoBody.cookie (cookie_told app most home x w z y h) i hold n.tallied m held
decl_goes sound app most home (decl.Val x w e) z y b c wz wy h i hold n m plain held = val_steps sound app most home x w e z y b c wz h i hold n held
decl_goes sound app most home (decl.Fun fs) z y b c wz wy h i hold n m plain held = group_steps sound app most home fs z y b c wy h i hold n plain held
