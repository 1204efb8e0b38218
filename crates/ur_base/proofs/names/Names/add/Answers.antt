use Rattle.std.proofs.Common.{◌≡◌, ◌∷◌, [], ◌++◌, List, ℕ, string_bytes, bytes_eq, false, sym, subst}
use Rattle.std.specs.List.{list_any}
use Rattle.ur_base.proofs.Texts.{texts-added}
use Rattle.ur_base.proofs.names.Names.add.Goals as goal

pub returns-clause-ok : goal.returns-clause-ok
returns-clause-ok c =
    let absent = subst (λ (texts : List (List ℕ)). list_any (bytes_eq c.args.text.now) texts ≡ false) (sym c.self.view_is) c.requires.new in
    let added = texts-added string_bytes c.args.text.now c.self.inside.texts.keys c.insert.new.self.keys c.in_ok-owned.owned
    c.in_ok-owned.ensures.ok absent c.in_ok-insert.ensures.keys in
    subst (λ (texts : List (List ℕ)). Rattle.ur_base.specs.contracts.names.Names.the_view (record { alloc = c.self.inside.alloc; texts = c.insert.new.self }) ≡ texts ++ c.args.text.now ∷ []) c.self.view_is added
