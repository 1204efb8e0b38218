-- What a term comes to does not depend on a variable that it does not read.
use Rattle.std.specs.Prelude.{◌≡◌, ℕ, List}
use Rattle.ur_values.specs.declared.value.Value.{Value}
use Rattle.ur_terms.specs.declared.term.Term.{Term}
use Rattle.ur_terms.specs.State.{State}
use Rattle.ur_terms.specs.Run.{Does, Calls, eval}
use Rattle.ur_terms.specs.Cost.{CallsCost, cost}
use Rattle.ur_machine_frames.specs.Unread.{Unread, SameBut}

abbrev pub UnreadComesAlike : Type 0
UnreadComesAlike = (d : Does) (c : Calls) (a : Term) (i : ℕ) (env env' : List Value) (s : State) → Unread i a → SameBut i env env' → eval d c a env s ≡ eval d c a env' s

abbrev pub UnreadCostsAlike : Type 0
UnreadCostsAlike = (d : Does) (c : Calls) (k : CallsCost) (a : Term) (i : ℕ) (env env' : List Value) (s : State) → Unread i a → SameBut i env env'
    → cost d c k a env s ≡ cost d c k a env' s
