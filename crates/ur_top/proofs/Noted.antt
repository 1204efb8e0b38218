-- The list of the files of the notes, as it is made.
use Rattle.std.proofs.Common.{◌≡◌, ℕ, List, [], ◌∷◌, ◌++◌, codes, ap, ◌∙◌}
use Rattle.ur_top.specs.Notes.{notes_list, notes_project, notes_module, notes_signature}

pub notes_are : (none one two three : List (List ℕ × List ℕ)) (project source signature : List ℕ) → none ≡ [] → project ≡ notes_project →
    source ≡ notes_module → signature ≡ notes_signature
    → one ≡ none ++ (codes "notes.urp", project) ∷ [] → two ≡ one ++ (codes "main.ur", source) ∷ [] → three ≡ two ++ (codes "main.urs", signature) ∷ [] → three ≡ notes_list
unfolding notes_list
notes_are none one two three project source signature is is_project is_source is_signature first second third =
    third ∙ ap (λ files. files ++ (codes "main.urs", signature) ∷ []) (second ∙ ap (λ files. files ++ (codes "main.ur", source) ∷ []) (first ∙ ap (λ files. files ++ (codes "notes.urp", project) ∷ []) is))
    ∙ ap (λ text. (codes "notes.urp", text) ∷ (codes "main.ur", source) ∷ (codes "main.urs", signature) ∷ []) is_project
    ∙ ap (λ text. (codes "notes.urp", notes_project) ∷ (codes "main.ur", text) ∷ (codes "main.urs", signature) ∷ []) is_source
    ∙ ap (λ text. (codes "notes.urp", notes_project) ∷ (codes "main.ur", notes_module) ∷ (codes "main.urs", text) ∷ []) is_signature
