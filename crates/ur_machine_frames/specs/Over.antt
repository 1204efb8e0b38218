-- Variables that nothing reads any more, in what is left of the nearest function's run.
use Rattle.std.specs.Prelude.{ℕ, zero, suc, ◌<◌, List, [], ◌∷◌, drop, length, Option, Some, None}
use Rattle.ur_terms.specs.declared.term.Term.{Term, out-Term}
use Rattle.ur_terms.specs.declared.term.Term.TheOpen as o
use Rattle.ur_terms.specs.declared.term.Function.{Function}
use Rattle.ur_machine_frames.specs.Unread.{under, Unread, AreUnread, AreBranchesUnread}
use Rattle.ur_machine_frames.specs.declared.frame.Frame.{Frame}
use Rattle.ur_machine_frames.specs.declared.frame.Frame.TheVariants as frame
use Rattle.ur_machine_frames.specs.Rest.{Open, standing}

-- what holds of a variable outside a binder of so many, unless it is one of those
abbrev pub Outside : ℕ → ℕ → (ℕ → Type 0) → Type 0
Outside zero i P = P i
Outside (suc n) zero P = Unit {0}
Outside (suc n) (suc i) P = Outside n i P

-- what a frame still evaluates of its term does not read the variable
abbrev pub LeavesUnread : Frame → Open → ℕ → Type 0
LeavesUnread (frame.Args done) (o.Make op args) i = AreUnread i (drop (suc (length done)) args)
LeavesUnread (frame.Args done) (o.Call f args) i = AreUnread i (drop (suc (length done)) args)
LeavesUnread (frame.Args done) (o.Let args body) i =
    (length done < length args) × AreUnread i (drop (suc (length done)) args) × Unread (under (length args) i) body
LeavesUnread frame.Condition (o.If q a b) i = Unread i a × Unread i b
LeavesUnread frame.Subject (o.Case q bs) i = AreBranchesUnread i bs
LeavesUnread frame.Rows (o.Each q body) i = Unread (suc i) body
LeavesUnread _ _ i = ⊥

abbrev pub IsThere : Option Term → (Open → Type 0) → Type 0
IsThere None P = ⊥
IsThere (Some a) P = P (out-Term a)

-- no item is left
abbrev pub IsLastItem : {A : Type 0} → List A → Type 0
IsLastItem [] = Unit {0}
IsLastItem (x ∷ xs) = ⊥

-- no frame up to the nearest function's body reads the variable
abbrev pub IsOver : List Function → List Frame → ℕ → Type 0
IsOver fs [] i = Unit {0}
IsOver fs (frame.Body f caller ∷ frames) i = Unit {0}
IsOver fs (frame.LetBody n ∷ frames) i = Outside n i (IsOver fs frames)
IsOver fs (frame.Branch k n ∷ frames) i = Outside n i (IsOver fs frames)
IsOver fs (frame.Side side ∷ frames) i = IsOver fs frames i
IsOver fs (frame.Item done more ∷ frames) i = IsLastItem more × Outside 1 i (IsOver fs frames)
IsOver fs (frame.Args done ∷ frames) i = IsThere (standing fs frames) (λ a. LeavesUnread (frame.Args done) a i) × IsOver fs frames i
IsOver fs (frame.Condition ∷ frames) i = IsThere (standing fs frames) (λ a. LeavesUnread frame.Condition a i) × IsOver fs frames i
IsOver fs (frame.Subject ∷ frames) i = IsThere (standing fs frames) (λ a. LeavesUnread frame.Subject a i) × IsOver fs frames i
IsOver fs (frame.Rows ∷ frames) i = IsThere (standing fs frames) (λ a. LeavesUnread frame.Rows a i) × IsOver fs frames i
