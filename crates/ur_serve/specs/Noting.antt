-- The queries of a run, as they are noted.
use Rattle.std.specs.Prelude.{◌≡◌, List, ◌++◌, map, Option, Some, None, ⊤}
use Rattle.ur_values.specs.Event.{Event}
use Rattle.ur_cache.specs.Entries.{Entry}
use Rattle.ur_code.specs.declared.code.Code.{Code}
use Rattle.ur_machine.specs.Answers.{AreEntriesOf}
use Rattle.ur_pages.specs.declared.page.Ask.{Ask}
use Rattle.ur_pages.specs.Pages.{read_ask}
use Rattle.ur_memo.specs.Remembered.{asked_of, ask_of}

-- With these events the queries of typed entries were noted, and the events are theirs; or nothing is noted any more.
abbrev pub IsNoted : Code → Option (List Ask) → Option (List Ask) → List Event → Type 0
IsNoted code before None events = ⊤
IsNoted code None (Some asks) events = ⊥
IsNoted code (Some before) (Some asks) events =
    (es : List Entry) × AreEntriesOf code es × (map read_ask asks ≡ map read_ask before ++ map asked_of es) × (events ≡ map ask_of es)
