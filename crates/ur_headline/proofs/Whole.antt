-- What a server has served is what the headline says.
use Rattle.std.proofs.Common.{◌≡◌, ℕ, ◌≤◌, List, Option, Some, sym, subst}
use Rattle.ur_io.specs.declared.session.SessionEnd.{SessionEnd}
use Rattle.ur_io.specs.Traffic.{Traffic}
use Rattle.ur_words.specs.declared.reading.Settings.{Settings}
use Rattle.ur_values.specs.Store.{Store}
use Rattle.ur_keeper.specs.Tables.{Tables, KeptSchema, AreSound, store_of}
use Rattle.ur_conditions.specs.Patterns.{AreAllPatterns}
use Rattle.ur_tree.specs.declared.typed.Typed.{Typed}
use Rattle.ur_serve.specs.Program.{Holding, fresh, ServedAnswers, ServedReaches}
use Rattle.ur_serve.specs.Responding.{served_by}
use Rattle.ur_serve.specs.Serving.{ServerState}
use Rattle.ur_headline.specs.Source.{AreSessions, AreCachedSessions}
use Rattle.ur_headline.specs.Served.{HasServed}
use Rattle.ur_headline.specs.Serves.{AttachLeaves, Serves}
use Rattle.ur_headline.specs.Laws.{IsCodeOfSource, AreServedSessions}
use Rattle.ur_headline.proofs.Carrying.{serves_source}
use Rattle.ur_headline.proofs.Lasting.{tables_last}
use Rattle.ur_headline.proofs.Running.{run_ends}

pub run_serves : (app : Typed) (s : ServerState) → IsCodeOfSource app s.code → AreAllPatterns s.code.queries s.code.changes s.patterns → s.steps ≤ 4294967295
    → (settings : Settings) → settings.steps ≡ s.steps → settings.cache ≡ s.cache.capacity
    → (kept : KeptSchema) (saved : Option Tables) (tables : Tables) → AttachLeaves app.schema kept saved tables → AreSound app.schema tables
    → (t u : Traffic) (done : List SessionEnd) (after : Store) (reads reads' : ℕ) → HasServed s (store_of tables) reads t done after reads' u
    → Serves app settings kept saved t done (Some u) after reads reads'
run_serves app s is all few settings steps cache kept saved tables attached sound t u done after reads reads' h =
    let given : List (List ℕ) = h.run.given in
    let start : Holding = fresh (store_of tables) reads in
    let ran : AreServedSessions (served_by s) start t.coming done given h.now =
    run_ends (ServedAnswers (served_by s)) (ServedReaches (served_by s)) (λ (x : Holding). x.store) 16777216 h.left start h.now t u done h.run in
    let both = serves_source app s.code s.patterns s.steps s.cache.capacity is start h.now t.coming done given
    (tables_last s.code s.steps tables few (subst (λ z. AreSound z tables) (sym is.schema) sound)) ran in
    record {
      tables = tables;
      attached = attached;
      sound = sound;
      given = given;
      on_wire = (h.run.same_coming, h.run.same_given);
      served = subst (λ n. AreSessions app n (store_of tables) t.coming done given after) (sym steps)
          (subst (λ (z : Store). AreSessions app s.steps (store_of tables) t.coming done given z) h.same_store both.1);
      scans = record {
        patterns = s.patterns;
        all_patterns = subst (λ cs. AreAllPatterns app.queries cs s.patterns) is.changes (subst (λ qs. AreAllPatterns qs s.code.changes s.patterns) is.queries all);
        end = h.now;
        same_store = h.same_store;
        same_count = h.same_count;
        cached = subst (λ n. AreCachedSessions app n s.patterns settings.cache start t.coming done given h.now) (sym steps)
            (subst (λ n. AreCachedSessions app s.steps s.patterns n start t.coming done given h.now) (sym cache) both.0);
      };
    }
