-- The name does not end so.
use Rattle.std.proofs.Common.{◌≡◌, ◌++◌, nat_eq, false, cond, codes, sym, ap, ◌∙◌}
use Rattle.std.proofs.lemmas.Str.Pattern.{ends_text}
use Rattle.std.specs.List.{ends_with}
use Rattle.ur_load.proofs.files.project_file.Goals as goal

pub returns-in_ok-format : goal.returns-in_ok-format
returns-in_ok-format c =
    let name = c.args.name.now in
    let test : ends_with nat_eq name (codes ".urp") ≡ false = sym (ends_text c.ends_with.result (codes ".urp") name c.ends_with.ensures.cases) ∙ c.if-ends_with.false in
    c.in_ok-format.ensures.ok ∙ ap (λ b. cond b name (name ++ codes ".urp")) (sym test)
