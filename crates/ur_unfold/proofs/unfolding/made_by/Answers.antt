use Rattle.std.proofs.Common.{sym, subst, ◌∙◌}
use Rattle.std.proofs.lemmas.Bool.{false≢true}
use Rattle.std.specs.List.{AllZip}
use Rattle.ur_source.specs.Source.{language}
use Rattle.ur_meaning.specs.Working.{Unfolded}
use Rattle.ur_unfold_pieces.specs.Standing.{instances_in}
use Rattle.ur_unfold.specs.Making.{AreTerms}
use Rattle.ur_unfold.proofs.Assembled.{functions_are}
use Rattle.ur_unfold.proofs.Bounded.{is_small}
use Rattle.ur_unfold.proofs.Larges.{keys_small, has_large}
use Rattle.ur_unfold.specs.declared.unfolding.Made.{Made}
use Rattle.ur_unfold.proofs.Refusing.{stopped}
use Rattle.ur_unfold.proofs.unfolding.made_by.Goals as goal

pub returns-then-not-are_small-clause-refused : goal.returns-then-not-are_small-clause-refused
returns-then-not-are_small-clause-refused c =
    stopped c.args.typed.now Made c.stop_of.result
    (c.stop_of.ensures (has_large c.args.table.now.closing c.args.typed.now c.args.table.now.instances.keys c.args.bodies c.requires (λ all. false≢true (sym c.if-not-are_small.true ∙ c.are_small.ensures.1 all))))

pub returns-clause-made : goal.returns-clause-made
returns-clause-made c =
    let ks = instances_in c.args.table.now in
    record {
      instances = ks;
      are = c.requires.are;
      functions = functions_are c.args.typed.now ks ks c.in_ok-functions.functions (subst (AllZip (Unfolded (language c.args.typed.now) ks) ks) (sym c.in_ok-functions.ensures.bodies) c.requires.unfolded) c.in_ok-functions.ensures.heads;
      targets = c.in_ok-targets.ensures;
      variants = c.in_ok-variants.ensures;
    }

pub returns-clause-small : goal.returns-clause-small
returns-clause-small c =
    is_small c.args.typed.now (instances_in c.args.table.now) c.in_ok-functions.functions (subst (AreTerms c.args.typed.now (instances_in c.args.table.now)) (sym c.in_ok-functions.ensures.bodies) c.requires)
    (keys_small c.args.table.now.closing c.args.table.now.instances.keys (c.are_small.ensures.0 c.if-not-are_small.false))
