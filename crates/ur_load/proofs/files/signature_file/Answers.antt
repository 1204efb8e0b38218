-- The project's file is cut at its last slash.
use Rattle.std.proofs.Common.{◌≡◌, ◌++◌, ◌∷◌, [], codes, string_bytes, sym, ap, ◌∙◌}
use mathlib.Core.List.{append_assoc}
use Rattle.ur_load.specs.Names.{folder}
use Rattle.ur_load.proofs.Folders.{folder_at, folder_none}
use Rattle.ur_load.proofs.files.signature_file.Goals as goal

pub returns-in_ok-format-in-Some : goal.returns-in_ok-format-in-Some
returns-in_ok-format-in-Some c =
    let cut = c.in-Some.ensures.cases in
    let is : folder c.args.project.now ≡ c.in-Some.folder.now ++ (47 ∷ []) = folder_at c.args.project.now c.in-Some.folder.now cut.0 cut.1 cut.2 cut.3 in
    let front = c.in-Some.folder.now in
    let name = c.args.name.now in
    let shown : string_bytes c.in_ok-format-in-Some.field-0 ≡ front ++ (47 ∷ (name ++ codes ".urs")) = c.in_ok-format-in-Some.ensures.ok in
    let grouped : front ++ (47 ∷ (name ++ codes ".urs")) ≡ ((front ++ 47 ∷ []) ++ name) ++ codes ".urs" = simp append_assoc in
    shown ∙ grouped ∙ ap (λ d. (d ++ name) ++ codes ".urs") (sym is)

pub returns-in_ok-format-in-None : goal.returns-in_ok-format-in-None
returns-in_ok-format-in-None c =
    let is = folder_none c.args.project.now c.in-None.ensures.cases in
    rw is c.in_ok-format-in-None.ensures.ok
