-- The application that `load` runs: notes of users, with a page for each user and forms that add, drop and move notes.
use Rattle.std.specs.Prelude.{List, [], ◌∷◌, ◌++◌, ℕ, codes}
use Rattle.ur_io.specs.Files.{Files}
use Rattle.ur_io.specs.Memory.{file_of}

abbrev pub notes_word : List ℕ
notes_word = codes "notes"

unfoldable pub notes_project : List ℕ
notes_project = codes "database dbname=notes\n\nmain\n"

unfoldable pub notes_signature : List ℕ
notes_signature = codes "val list : string -> transaction page\n"

unfoldable pub notes_module : List ℕ
notes_module =
    codes "sequence ids\n"
    ++ codes "table note : {Id : int, Owner : string, Body : string} PRIMARY KEY Id\n"
    ++ codes "\n"
    ++ codes "fun list (who : string) : transaction page =\n"
    ++ codes "  rows <- queryX (SELECT note.Id, note.Body FROM note\n"
    ++ codes "                  WHERE note.Owner = {[who]} ORDER BY note.Id)\n"
    ++ codes "    (fn r => <xml><p>{[r.Note.Body]}</p><form><submit action={drop r.Note.Id} value=\"Drop\"/></form><form><textbox{#To}/><submit action={move r.Note.Id} value=\"Move\"/></form></xml>);\n"
    ++ codes "  return <xml><head><title>Notes</title></head><body><h1>{[who]}</h1>{rows}<form><textbox{#Body}/><submit action={add who} value=\"Add\"/></form></body></xml>\n"
    ++ codes "and add (who : string) (r : {Body : string}) : transaction page =\n"
    ++ codes "  n <- nextval ids;\n"
    ++ codes "  dml (INSERT INTO note (Id, Owner, Body) VALUES ({[n]}, {[who]}, {[r.Body]}));\n"
    ++ codes "  list who\n"
    ++ codes "and drop (id : int) (u : unit) : transaction page =\n"
    ++ codes "  dml (DELETE FROM note WHERE Id = {[id]});\n"
    ++ codes "  return <xml><body><p>done</p></body></xml>\n"
    ++ codes "and move (id : int) (r : {To : string}) : transaction page =\n"
    ++ codes "  dml (UPDATE note SET Owner = {[r.To]} WHERE Id = {[id]});\n"
    ++ codes "  return <xml><body><p>done</p></body></xml>\n"

-- its files, each with its name
unfoldable pub notes_list : List (List ℕ × List ℕ)
notes_list = (codes "notes.urp", notes_project) ∷ (codes "main.ur", notes_module) ∷ (codes "main.urs", notes_signature) ∷ []

-- the same as a map from names to bytes
abbrev pub notes_files : Files
notes_files = file_of notes_list
