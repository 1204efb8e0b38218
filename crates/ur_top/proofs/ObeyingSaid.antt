-- What was printed before the report.
use Rattle.std.proofs.Common.{◌≡◌, inl, inr, ℕ, Bool, List, [], ◌++◌, Option, Some, None, refl, sym, ap, subst, ◌∙◌, append-nil}
use Rattle.ur_base.specs.Counts.{Rose}
use Rattle.ur_base.specs.Told.{WhereTold}
use Rattle.ur_io.specs.Files.{Files}
use Rattle.ur_io.specs.Traffic.{Traffic}
use Rattle.ur_io.specs.declared.session.SessionEnd.{SessionEnd}
use Rattle.ur_words.specs.Texts as texts
use Rattle.ur_words.specs.declared.reading.Reading.{Reading}
use Rattle.ur_words.specs.declared.reading.Reading.TheVariants.{Serve}
use Rattle.ur_words.specs.declared.reading.Settings.{Settings}
use Rattle.ur_top.specs.Ends.{World, NoCalls, IsSaid, Ends}
use Rattle.ur_top.specs.Serving.{ServesOn, IsUnsaid}
use Rattle.ur_top.specs.Starting.{Held, Unstarted}
use Rattle.ur_top.specs.declared.reporting.RunEnd.{RunEnd}
use Rattle.ur_top.specs.declared.reporting.RunEnd.TheVariants as end
use Rattle.ur_top.proofs.Cases.{told_more}
use Rattle.ur_top.proofs.ObeyingIdle.{no_memory}

-- this text was printed, and it is the one that is due before the report of this end
abbrev pub Says : Option (List ℕ) → Option (List ℕ) → Option Reading → RunEnd → Type 0
Says sink sink' reading e = WhereTold sink (λ before. (text : List ℕ) × (sink' ≡ Some (before ++ text)) × IsSaid reading e text)

-- ---- a project that was not started

pub unstarted_said : (told : Option Files) (word : List ℕ) (faults faults' : ℕ) (old new : Held) (reading : Option Reading) (e : RunEnd) →
    Unstarted told word faults faults' old new e → IsSaid reading e []
unstarted_said told word faults faults' old new reading (end.Refused file r) h = refl
unstarted_said told word faults faults' old new reading (end.Schema kept application) h = refl
unstarted_said told word faults faults' old new reading end.Shelf h = refl
unstarted_said told word faults faults' old new reading end.Keeper h = refl
unstarted_said told word faults faults' old new reading end.Memory h = inl refl
unstarted_said told word faults faults' old new reading e h = absurd h

pub unstarted_sink : (told : Option Files) (word : List ℕ) (faults faults' : ℕ) (old new : Held) (e : RunEnd) → Unstarted told word faults faults' old new e →
    e ≡ end.Sink → ⊥
unstarted_sink told word faults faults' old new e h is = subst (λ z. Unstarted told word faults faults' old new z) is h

-- ---- a first line that was not printed

module _ (p : List ℕ) (port : ℕ) (s : Settings) (n : ℕ) (sink sink' : Option (List ℕ)) (faults faults' : ℕ) where
  pub line_said : (e : RunEnd) → IsUnsaid port sink sink' faults faults' e → Says sink sink' (Some (Serve p port s n)) e
  line_said end.Sink h = told_more sink _ _ h.1 (λ before x. (x.0, x.2, x.1))
  line_said end.Memory h = unmoved sink h.0
    where
      unmoved : (o : Option (List ℕ)) → sink' ≡ o → Says o sink' (Some (Serve p port s n)) end.Memory
      unmoved None is = tt
      unmoved (Some before) is = ([], is ∙ ap Some (sym (append-nil before)), inl refl)
  line_said e h = absurd h

  pub line_sink : (e : RunEnd) → IsUnsaid port sink sink' faults faults' e → e ≡ end.Sink → Rose faults faults'
  line_sink e h is = (let at : IsUnsaid port sink sink' faults faults' end.Sink = subst (λ z. IsUnsaid port sink sink' faults faults' z) is h in at.0)

  pub line_ends : (told : Option Files) (old new : World) (e : RunEnd) → IsUnsaid port sink sink' faults faults' e → NoCalls old new [] → Ends told (Some (Serve p port s n)) old new e []
  line_ends told old new end.Sink h calls = ((p, port, s, n, refl), calls)
  line_ends told old new end.Memory h calls = no_memory told (Some (Serve p port s n)) old new
  line_ends told old new e h calls = absurd h

-- ---- a project that was served

module _ (most : ℕ) (wire : Option Traffic) (faults faults' : ℕ) (current' : Bool) (sessions : List SessionEnd) where
  on_said : (p : List ℕ) (port : ℕ) (s : Settings) (n : ℕ) (e : RunEnd) → ServesOn most wire faults faults' current' e sessions → IsSaid (Some (Serve p port s n)) e (texts.serving_line port)
  on_said p port s n end.Done on = refl
  on_said p port s n end.Wire on = refl
  on_said p port s n end.Memory on = inr refl
  on_said p port s n e on = absurd on

  pub served_said : (p : List ℕ) (port : ℕ) (s : Settings) (n : ℕ) (sink sink' : Option (List ℕ)) (e : RunEnd) → ServesOn most wire faults faults' current' e sessions
      → WhereTold sink (λ before. sink' ≡ Some (before ++ texts.serving_line port)) → Says sink sink' (Some (Serve p port s n)) e
  served_said p port s n sink sink' e on h =
      told_more sink (λ before. sink' ≡ Some (before ++ texts.serving_line port)) (λ before. (text : List ℕ) × (sink' ≡ Some (before ++ text)) × IsSaid (Some (Serve p port s n)) e text) h
      (λ before is. (texts.serving_line port, is, on_said p port s n e on))

  pub served_sink : (e : RunEnd) → ServesOn most wire faults faults' current' e sessions → e ≡ end.Sink → ⊥
  served_sink e on is = subst (λ z. ServesOn most wire faults faults' current' z sessions) is on
