-- One declaration by its form.
use Rattle.std.proofs.Common.{◌≡◌, sym, subst, ℕ}
use Rattle.ur_base.specs.declared.refusal.Refusal.{Refusal}
use Rattle.ur_syntax.specs.declared.decl.DeclForm.{DeclForm}
use Rattle.ur_typed_rules.specs.Faults.{Fault}
use Rattle.ur_check_scopes.specs.Views.{Refuses}
use Rattle.ur_typed.specs.Declaring.{Sofar, decl_out}
use Rattle.ur_typed.specs.DeclFaults.{BreaksDecl, names_within}
use Rattle.ur_check_heads.specs.declared.project.Project.{Project}
use Rattle.ur_check_heads.specs.Views.{Comes}

pub form-comes : (p : Project) (home : ℕ) (z : Sofar) (f g : DeclForm) → f ≡ g → Comes p home (decl_out 65536 home g z) → Comes p home (decl_out 65536 home f z)
form-comes p home z f g e h = subst (λ x. Comes p home (decl_out 65536 home x z)) (sym e) h

pub form-breaks : (home : ℕ) (z : Sofar) (f g : DeclForm) (P : Fault → Type 0) (r : Refusal) → f ≡ g → ((c : Fault) → P c → BreaksDecl 65536 home z g c) → Refuses (names_within home g z) P r → Refuses (names_within home f z) (BreaksDecl 65536 home z f) r
form-breaks home z f g P r e k h = subst (λ x. Refuses (names_within home x z) (BreaksDecl 65536 home z x) r) (sym e) (h.0, k h.0 h.1, h.2)
