use Rattle.std.proofs.Common.{◌≡◌, Some, List, ℕ, string_bytes, slice_get, bytes_eq, false, sym, ◌∙◌, subst}
use Rattle.std.specs.List.{list_any}
use Rattle.ur_base.proofs.Texts.{slice_get-found, list_any-texts}
use Rattle.ur_base.proofs.names.Names.find.Goals as goal

pub returns-in-Some : goal.returns-in-Some
returns-in-Some c =
    let found = slice_get-found string_bytes c.args.text.now c.self.inside.texts.keys c.in-Some.index (sym c.get_index_of.ensures.index ∙ c.in-Some.is) in
    subst (λ (texts : List (List ℕ)). slice_get texts c.in-Some.index ≡ Some c.args.text.now) c.self.view_is found

pub returns-in-None : goal.returns-in-None
returns-in-None c =
    let absent = sym (list_any-texts string_bytes c.args.text.now c.self.inside.texts.keys) ∙ sym c.in-None.ensures.found in
    subst (λ (texts : List (List ℕ)). list_any (bytes_eq c.args.text.now) texts ≡ false) c.self.view_is absent
