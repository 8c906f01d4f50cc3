-- Job A's printed text and the lines of its explanation, by computing.
use mathlib.Core.Path.{refl}
use Rattle.leb128.specs.Number.{plan_groups, job_groups, more, answered, read}
use Rattle.leb128.specs.Number
use Rattle.graph.specs.Refusal.{number_of}
use Rattle.graph.specs.Rows.{vertex_count_rows, edge_count_rows, tail_rows, head_rows, cost_rows, class_rows, through, through_all, take_number, taking}
use Rattle.graph.specs.Plan.{least_after, past, next_edge, before, onward, edges_from, header, after_header, decode, sizes}
use Rattle.graph.specs.Lists.{over, edges_in}
use Rattle.search.specs.Walk.{edge_cost, on_edge, cost_from, route_cost}
use Rattle.search.specs.Permitted.{barred_by, permitted}
use Rattle.search.specs.Job.{cyclic, guides, heuristic, factors, standard, unreached, no_pred, route_end, no_opinion, fresh, origin, at_first, at}
use Rattle.search.specs.Turn.{key, offered, better, least_from, least, step_one, candidate, choose, marked, lowered, relax, relax_all, expand}
use Rattle.search.specs.Rounds.{first_turn, next_turn, turned, ended, in_hand, step, choice, turn, trace, traced, improves, cost_or, reopened, end_round, on_finished, settle, settled, begin, on_due, advance, run, moments, search}
use Rattle.search.specs.Call.{or_default, schedule_of, out_of_range, rising, unfit_schedule, pairs, row, first, ends_row, tables_row, schedule_row, memory_row, goal_row, edges_row, fault_in, fault_of, plan_edges, tables, job_in, job_from, job_of}
use Rattle.search.specs.Outcome.{bound, summary, cut_short, answer_at, answer_of, figures, route_words, route_after, log_word, log_after, outcome, answer_in, answer, memory_in, memory_after}
use Rattle.search.specs.Reason as reason
use Rattle.search.specs.Reason.{lists_row, inquiry_fault_in, inquiry_fault, call_memory, numbers_of, is_reached, leaves, last_vertices, reached, leaving, listed_at, vertices_listed, edges_listed}
use Rattle.text.specs.Text.{ascii, digits_in, digits, field, turn_line, logged_line, each, turn_lines, vertices, route_line, end_line, unfinished_line, refused_line, no_route_line, reach_line, barred_line}
use Rattle.job.specs.Numbers.{end_after, end_of, value_before, values}
use Rattle.job.specs.Front.{following, rounds, ends, front}
use Rattle.job.specs.Front
use Rattle.job.specs.Reading.{plan_of, table_count, after_tables, after_sizes, after_plan, after_front, job_read}
use Rattle.job.specs.Asked.{factors_of, tables_of, anchor_of, sheets_of, zeros, call_with, call_asked}
use Rattle.job.specs.Printed.{turns, last_lines, printed, call_text, text_of, bench_text}
use Rattle.job.specs.Explained.{inquiry_asked, edge_line, reason_lines, inquiry_text, explained_as, explain_text}
use Rattle.job.specs.JobA.{PrintsA, ExplainsA}

pub prints_A : PrintsA
unfolding number_of Number.decode more answered read plan_groups job_groups vertex_count_rows edge_count_rows tail_rows head_rows cost_rows class_rows through through_all take_number taking least_after past next_edge before onward edges_from header after_header decode sizes over edges_in edge_cost on_edge cost_from route_cost barred_by permitted cyclic guides heuristic factors standard unreached no_pred route_end no_opinion fresh origin at_first at key offered better least_from least step_one candidate choose marked lowered relax relax_all expand first_turn next_turn turned ended in_hand step choice turn trace traced improves cost_or reopened end_round on_finished settle settled begin on_due advance run moments search or_default schedule_of out_of_range rising unfit_schedule pairs row first ends_row tables_row schedule_row memory_row goal_row edges_row fault_in fault_of plan_edges tables job_in job_from job_of bound summary cut_short answer_at answer_of figures route_words route_after log_word log_after outcome answer_in answer memory_in memory_after ascii digits_in digits field turn_line logged_line each turn_lines vertices route_line end_line unfinished_line refused_line end_after end_of value_before values following Front.past rounds ends front plan_of table_count after_tables after_sizes after_plan after_front job_read factors_of tables_of anchor_of sheets_of zeros call_with call_asked turns last_lines printed call_text text_of bench_text
prints_A =
    record {
      whole = refl;
      at_2 = refl;
      at_1 = refl;
      barred = refl;
      barred_256 = refl;
      barred_malformed = refl;
      no_rounds = refl;
      class_8 = refl;
    }

pub explains_A : ExplainsA
unfolding number_of Number.decode more answered read plan_groups job_groups vertex_count_rows edge_count_rows tail_rows head_rows cost_rows class_rows through through_all take_number taking least_after past next_edge before onward edges_from header after_header decode sizes over edges_in edge_cost on_edge cost_from route_cost barred_by permitted cyclic guides heuristic factors standard unreached no_pred route_end no_opinion fresh origin at_first at key offered better least_from least step_one candidate choose marked lowered relax relax_all expand first_turn next_turn turned ended in_hand step choice turn trace traced improves cost_or reopened end_round on_finished settle settled begin on_due advance run moments search or_default schedule_of out_of_range rising unfit_schedule pairs row first ends_row tables_row schedule_row memory_row goal_row edges_row fault_in fault_of plan_edges tables job_in job_from job_of bound summary cut_short answer_at answer_of figures route_words route_after log_word log_after outcome answer_in answer memory_in memory_after ascii digits_in digits field turn_line logged_line each turn_lines vertices route_line end_line unfinished_line refused_line end_after end_of value_before values following Front.past rounds ends front plan_of table_count after_tables after_sizes after_plan after_front job_read factors_of tables_of anchor_of sheets_of zeros call_with call_asked turns last_lines printed call_text text_of bench_text no_route_line reach_line barred_line lists_row inquiry_fault_in inquiry_fault reason.answered call_memory numbers_of is_reached leaves last_vertices reached leaving listed_at vertices_listed edges_listed inquiry_asked edge_line reason_lines inquiry_text explained_as explain_text
explains_A = record { barred = refl; route = refl; at_1 = refl; barred_256 = refl; class_8 = refl }
