-- Words on the compiler's answers.
use Rattle.std.specs.Prelude.{◌≡◌, ℕ, List, Result, Err, ⊤}
use Rattle.ur_base.specs.declared.refusal.Refusal.{Refusal}
use Rattle.ur_base.specs.declared.refusal.Stop.{Stop}
use Rattle.ur_base.specs.declared.refusal.Stop.TheVariants as stop
use Rattle.ur_load.specs.declared.load_end.LoadEnd.{LoadEnd}
use Rattle.ur_load.specs.declared.load_end.LoadEnd.TheVariants as load
use Rattle.ur_compile.specs.declared.compiled.CompileEnd.{CompileEnd}
use Rattle.ur_compile.specs.declared.compiled.CompileEnd.TheVariants.{Refused, Shelf, Memory}

-- P of the file and the refusal, where the project is refused
abbrev pub IfRefusedIn : {A : Type 0} → Result A CompileEnd → (List ℕ → Refusal → Type 0) → Type 0
IfRefusedIn (Err (Refused file r)) P = P file r
IfRefusedIn r P = ⊤

-- P, where the shelf failed
abbrev pub OnShelf : {A : Type 0} → Result A CompileEnd → Type 0 → Type 0
OnShelf (Err Shelf) P = P
OnShelf r P = ⊤

-- what the end of loading means for compiling
abbrev pub end_of : LoadEnd → CompileEnd
end_of (load.Refused file r) = Refused file r
end_of load.Shelf = Shelf
end_of load.Memory = Memory

-- the stop's refusal in this file, or want of memory
abbrev pub IsStopIn : List ℕ → Stop → CompileEnd → Type 0
IsStopIn file (stop.Refused r) (Refused at' q) = (at' ≡ file) × (q ≡ r)
IsStopIn file s Memory = ⊤
IsStopIn file s _ = ⊥

-- the number of the file in which the stop's refusal is
abbrev pub IsFileOf : Stop → ℕ → Type 0
IsFileOf (stop.Refused r) number = number ≡ r.span.file
IsFileOf stop.Memory number = ⊤
