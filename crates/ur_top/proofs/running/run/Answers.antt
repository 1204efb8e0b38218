use Rattle.std.proofs.Common.{map, string_bytes}
use Rattle.ur_base.specs.Counts.{Rose}
use Rattle.ur_words.specs.Words.{read}
use Rattle.ur_top.specs.Ends.{Reports}
use Rattle.ur_top.specs.Prints.{first_line}
use Rattle.ur_top.proofs.Answering as of
use Rattle.ur_top.proofs.running.run.Goals as goal

pub returns-clause-serves : goal.returns-clause-serves
returns-clause-serves g c =
    c.obey-end.ensures.obeyed.serves

pub returns-clause-links : goal.returns-clause-links
returns-clause-links g c =
    c.obey-end.ensures.obeyed.links

pub returns-clause-one_application : goal.returns-clause-one_application
returns-clause-one_application g c =
    of.one_application c.report-status.result c.obey-end.ensures.obeyed c.report-status.ensures.status c.one_application.ensures

pub returns-clause-keeper_faults : goal.returns-clause-keeper_faults
returns-clause-keeper_faults g c =
    c.obey-end.ensures.obeyed.keeper_rose

pub returns-clause-statuses : goal.returns-clause-statuses
returns-clause-statuses g c =
    of.statuses c.report-status.result c.obey-end.ensures.obeyed c.report-status.ensures.status

pub returns-clause-usage_only : goal.returns-clause-usage_only
returns-clause-usage_only g c =
    of.usage_only c.report-status.result c.obey-end.ensures.obeyed c.report-status.ensures.status

pub returns-clause-usage : goal.returns-clause-usage
returns-clause-usage g c =
    of.usage c.report-status.result c.obey-end.ensures.obeyed c.report-status.ensures.status

pub returns-clause-refused_only : goal.returns-clause-refused_only
returns-clause-refused_only g c =
    of.refused_only c.report-status.result c.obey-end.ensures.obeyed c.report-status.ensures.status

pub returns-clause-refused : goal.returns-clause-refused
returns-clause-refused g c =
    of.refused c.report-status.result c.obey-end.ensures.obeyed c.report-status.ensures.status

pub returns-clause-schema_only : goal.returns-clause-schema_only
returns-clause-schema_only g c =
    of.schema_only c.report-status.result c.obey-end.ensures.obeyed c.report-status.ensures.status c.one_application.ensures

pub returns-clause-schema_left : goal.returns-clause-schema_left
returns-clause-schema_left g c =
    of.schema_left c.report-status.result c.obey-end.ensures.obeyed c.report-status.ensures.status c.one_application.ensures

pub returns-clause-schema : goal.returns-clause-schema
returns-clause-schema g c =
    of.schema c.report-status.result c.obey-end.ensures.obeyed c.report-status.ensures.status c.one_application.ensures

pub returns-clause-shelf_fault : goal.returns-clause-shelf_fault
returns-clause-shelf_fault g c =
    of.shelf_fault c.report-status.result c.obey-end.ensures.obeyed c.report-status.ensures.status

pub returns-clause-sink_fault : goal.returns-clause-sink_fault
returns-clause-sink_fault g c =
    of.sink_fault c.obey-end.result.end c.report-status.result (g.O.Sink.faults c.args.out.now) (g.O.Sink.faults c.obey-end.new.out) (g.O.Sink.faults c.report-status.new.out) c.obey-end.ensures.sink c.obey-end.ensures.never_falls c.report-status.ensures.fault c.report-status.ensures.never_falls

pub returns-clause-wire_fault : goal.returns-clause-wire_fault
returns-clause-wire_fault g c =
    of.wire_fault c.report-status.result c.obey-end.ensures.obeyed c.report-status.ensures.status

pub returns-clause-keeper_fault : goal.returns-clause-keeper_fault
returns-clause-keeper_fault g c =
    of.keeper_fault c.report-status.result c.obey-end.ensures.obeyed c.report-status.ensures.status

pub returns-clause-wire_counted : goal.returns-clause-wire_counted
returns-clause-wire_counted g c =
    of.wire_counted c.report-status.result c.obey-end.ensures.obeyed c.report-status.ensures.status

pub returns-clause-replay_cut : goal.returns-clause-replay_cut
returns-clause-replay_cut g c =
    of.replay_cut c.report-status.result c.obey-end.ensures.obeyed c.report-status.ensures.status

pub returns-clause-left_out : goal.returns-clause-left_out
returns-clause-left_out g c =
    of.left_out c.report-status.result c.obey-end.ensures.obeyed c.report-status.ensures.status

pub returns-clause-few : goal.returns-clause-few
returns-clause-few g c =
    c.obey-end.ensures.obeyed.few

pub returns-clause-few_requests : goal.returns-clause-few_requests
returns-clause-few_requests g c =
    c.obey-end.ensures.obeyed.few_requests

pub returns-clause-unserved : goal.returns-clause-unserved
returns-clause-unserved g c =
    of.unserved c.report-status.result c.obey-end.ensures.obeyed c.report-status.ensures.status

pub returns-clause-left : goal.returns-clause-left
returns-clause-left g c =
    c.obey-end.ensures.obeyed.left

pub returns-clause-not_begun : goal.returns-clause-not_begun
returns-clause-not_begun g c =
    of.not_begun c.report-status.result c.obey-end.ensures.obeyed c.report-status.ensures.status

pub returns-clause-wanting : goal.returns-clause-wanting
returns-clause-wanting g c =
    of.wanting c.report-status.result c.obey-end.ensures.obeyed c.report-status.ensures.status

pub returns-clause-unsaid : goal.returns-clause-unsaid
returns-clause-unsaid g c =
    of.unsaid c.report-status.result c.obey-end.ensures.obeyed c.report-status.ensures.status

pub returns-clause-no_serving : goal.returns-clause-no_serving
returns-clause-no_serving g c =
    λ none. of.no_serving c.obey-end.ensures.obeyed none

pub returns-clause-no_serving_keeper : goal.returns-clause-no_serving_keeper
returns-clause-no_serving_keeper g c =
    λ none. of.no_serving_keeper c.obey-end.ensures.obeyed none

pub returns-clause-idle : goal.returns-clause-idle
returns-clause-idle g c =
    c.obey-end.ensures.obeyed.idle

pub returns-clause-attached : goal.returns-clause-attached
returns-clause-attached g c =
    c.obey-end.ensures.obeyed.attached

pub returns-clause-kept : goal.returns-clause-kept
returns-clause-kept g c =
    c.obey-end.ensures.obeyed.kept

pub returns-clause-schema_kept : goal.returns-clause-schema_kept
returns-clause-schema_kept g c =
    c.obey-end.ensures.obeyed.schema_kept

pub returns-clause-at_rest : goal.returns-clause-at_rest
returns-clause-at_rest g c =
    c.obey-end.ensures.obeyed.at_rest

pub returns-clause-no_current : goal.returns-clause-no_current
returns-clause-no_current g c =
    of.no_current c.report-status.result c.obey-end.ensures.obeyed c.report-status.ensures.status

pub returns-clause-files_kept : goal.returns-clause-files_kept
returns-clause-files_kept g c =
    c.obey-end.ensures.files_kept

pub returns-clause-never_fall : goal.returns-clause-never_fall
returns-clause-never_fall g c =
    (c.obey-end.ensures.obeyed.shelf_later, c.obey-end.ensures.obeyed.wire_later, c.obey-end.ensures.obeyed.keeper_later)

pub returns-clause-sink_never_falls : goal.returns-clause-sink_never_falls
returns-clause-sink_never_falls g c =
    of.later (g.O.Sink.faults c.args.out.now) (g.O.Sink.faults c.obey-end.new.out) (g.O.Sink.faults c.report-status.new.out) c.obey-end.ensures.never_falls c.report-status.ensures.never_falls

pub returns-clause-printed : goal.returns-clause-printed
returns-clause-printed g c =
    of.printed c.report-status.result c.obey-end.ensures.obeyed c.report-status.ensures.status (g.O.Sink.told c.args.out.now) (g.O.Sink.told c.obey-end.new.out) (g.O.Sink.told c.report-status.new.out) c.obey-end.ensures.said c.report-status.ensures.printed

pub returns-clause-announced : goal.returns-clause-announced
returns-clause-announced g c =
    λ some. of.line_first (g.O.Sink.told c.args.out.now) (g.O.Sink.told c.obey-end.new.out) (g.O.Sink.told c.report-status.new.out) (first_line (read (map string_bytes c.args.words.now))) (Reports c.obey-end.result.end c.report-status.result) (c.obey-end.ensures.announced some) c.report-status.ensures.printed

pub returns-clause-complete : goal.returns-clause-complete
returns-clause-complete g c =
    of.complete c.report-status.result c.obey-end.ensures.obeyed c.report-status.ensures.status c.one_application.ensures (Rose (g.O.Sink.faults c.args.out.now) (g.O.Sink.faults c.report-status.new.out)) (of.sink_fault c.obey-end.result.end c.report-status.result (g.O.Sink.faults c.args.out.now) (g.O.Sink.faults c.obey-end.new.out) (g.O.Sink.faults c.report-status.new.out) c.obey-end.ensures.sink c.obey-end.ensures.never_falls c.report-status.ensures.fault c.report-status.ensures.never_falls)

pub returns-clause-complete_report : goal.returns-clause-complete_report
returns-clause-complete_report g c =
    of.complete_report c.report-status.result c.obey-end.ensures.obeyed c.report-status.ensures.status (Rose (g.O.Sink.faults c.args.out.now) (g.O.Sink.faults c.report-status.new.out)) (of.sink_fault c.obey-end.result.end c.report-status.result (g.O.Sink.faults c.args.out.now) (g.O.Sink.faults c.obey-end.new.out) (g.O.Sink.faults c.report-status.new.out) c.obey-end.ensures.sink c.obey-end.ensures.never_falls c.report-status.ensures.fault c.report-status.ensures.never_falls)

pub returns-clause-complete_load : goal.returns-clause-complete_load
returns-clause-complete_load g c =
    of.complete_load c.report-status.result c.obey-end.ensures.obeyed c.report-status.ensures.status (Rose (g.O.Sink.faults c.args.out.now) (g.O.Sink.faults c.report-status.new.out)) (of.sink_fault c.obey-end.result.end c.report-status.result (g.O.Sink.faults c.args.out.now) (g.O.Sink.faults c.obey-end.new.out) (g.O.Sink.faults c.report-status.new.out) c.obey-end.ensures.sink c.obey-end.ensures.never_falls c.report-status.ensures.fault c.report-status.ensures.never_falls)
