use Rattle.std.proofs.Common.{List, [], length, get_or, All, sym, ap, ◌∙◌, subst}
use Rattle.std.proofs.lemmas.List.{get_or_default}
use Rattle.ur_sql.specs.declared.pattern.Pattern.{Pattern}
use Rattle.ur_conditions.specs.Masks.{PatternReads}
use Rattle.ur_conditions.proofs.patterns.Patterns.masks.Goals as goal

pub update_masks-requires-clause-reads : goal.update_masks-requires-clause-reads
update_masks-requires-clause-reads c =
    subst (λ (sites : List (List Pattern)). All (All (PatternReads (length c.args.args.now))) sites)
    (get_or_default c.args.self.now.updates c.args.update [] c.index-as_slice-update.result c.requires.update
    ∙ ap (λ (xs : List (List (List Pattern))). get_or xs c.args.update c.index-as_slice-update.result) (sym c.as_slice.ensures) ∙ sym c.index-as_slice-update.is)
    c.requires.reads
