-- The table of document 01's (p) cases, the jobs that tell its rules from others, and the cases of barred classes, of costs, of no opinion, of the lead and of the default schedule.
use mathlib.Core.Path.{refl}
use Rattle.leb128.specs.Number.{plan_groups, more, answered, read, encode}
use Rattle.leb128.specs.Number
use Rattle.graph.specs.Refusal.{number_of}
use Rattle.graph.specs.Rows.{vertex_count_rows, edge_count_rows, tail_rows, head_rows, cost_rows, class_rows, through, through_all, take_number, taking}
use Rattle.graph.specs.Plan.{least_after, past, next_edge, before, onward, edges_from, header, after_header, decode, sizes}
use Rattle.graph.specs.Lists.{over, room_for, read_as, edges_in, read_answer, list_after, edges_of, list_rows, edge_rows, edges_fault, write_fault, edge_bytes, edges_bytes, bytes_of, out_after}
use Rattle.search.specs.Walk.{edge_cost, on_edge, cost_from, route_cost}
use Rattle.search.specs.Permitted.{barred_by, permitted}
use Rattle.search.specs.Job.{cyclic, guides, heuristic, factors, standard, unreached, no_pred, route_end, no_opinion, fresh, origin, at_first, at}
use Rattle.search.specs.Turn.{key, offered, better, least_from, least, step_one, candidate, choose, marked, lowered, relax, relax_all, expand}
use Rattle.search.specs.Rounds.{first_turn, next_turn, turned, ended, in_hand, step, choice, turn, trace, traced, improves, cost_or, reopened, end_round, on_finished, settle, settled, begin, on_due, advance, run, moments, search}
use Rattle.search.specs.Call.{or_default, schedule_of, out_of_range, rising, unfit_schedule, pairs, row, first, ends_row, tables_row, schedule_row, memory_row, goal_row, edges_row, fault_in, fault_of, plan_edges, tables, job_in, job_from, job_of}
use Rattle.search.specs.Reason as reason
use Rattle.search.specs.Reason.{lists_row, inquiry_fault_in, inquiry_fault, call_memory, numbers_of, is_reached, leaves, last_vertices, reached, leaving, listed_at, vertices_listed, edges_listed, explanation, vertices_after, edges_after}
use Rattle.search.specs.Outcome.{bound, summary, cut_short, answer_at, answer_of, figures, route_words, route_after, log_word, log_after, edges_below, first_edges, mark_word, two_each, work_words, outcome, answer_in, answer, memory_in, memory_after}
use Rattle.job.proofs.JobA.{prints_A}
use Rattle.cases.specs.Cases.{Cases}
use Rattle.cases.specs.Apart.{Apart}
use Rattle.cases.specs.Barred.{Barred}
use Rattle.cases.specs.Costs.{Costs}
use Rattle.cases.specs.Opinion.{Opinion}
use Rattle.cases.specs.Lead.{shown, Lead}
use Rattle.cases.specs.Reasons.{Reasons}
use Rattle.cases.specs.Defaults.{Defaults}
use Rattle.cases.proofs.Ends.{plan_refused}
use Rattle.search.specs.Guarantee.{round_of, h_of, key_of, with_pick}
use Rattle.cases.proofs.TwoVertices.{between_two_vertices}
use Rattle.cases.proofs.StartIsGoal.{start_is_goal}

computed : Cases × Apart × Barred × Costs × Opinion × Lead × Defaults × Reasons
unfolding Number.decode more answered read plan_groups encode vertex_count_rows edge_count_rows tail_rows head_rows cost_rows class_rows through through_all take_number taking least_after past next_edge before onward edges_from header after_header decode sizes over room_for read_as edges_in read_answer list_after edges_of list_rows edge_rows edges_fault write_fault edge_bytes edges_bytes bytes_of out_after edge_cost on_edge cost_from route_cost barred_by permitted cyclic guides heuristic factors standard unreached no_pred route_end no_opinion fresh origin at_first at key offered better least_from least step_one candidate choose marked lowered relax relax_all expand first_turn next_turn turned ended in_hand step choice turn trace traced improves cost_or reopened end_round on_finished settle settled begin on_due advance run moments search or_default schedule_of out_of_range rising unfit_schedule pairs row first ends_row tables_row schedule_row memory_row goal_row edges_row fault_in fault_of plan_edges tables job_in job_from job_of bound summary cut_short answer_at answer_of figures number_of route_words route_after log_word log_after edges_below first_edges mark_word two_each work_words outcome answer_in answer memory_in memory_after round_of h_of key_of with_pick shown lists_row inquiry_fault_in inquiry_fault reason.answered call_memory numbers_of is_reached leaves last_vertices reached leaving listed_at vertices_listed edges_listed explanation vertices_after edges_after
computed = (
  record {
    job_A = record { says = refl; leaves = refl };
    job_A_at_2 = record { says = refl; leaves = refl };
    job_A_at_1 = record { says = refl; leaves = refl };
    job_A_prints = prints_A;
    between_two_vertices = between_two_vertices;
    start_is_goal = start_is_goal;
    numbers = refl;
    no_bytes = plan_refused _ _ _ refl;
    not_shortest = plan_refused _ _ _ refl;
    no_edge_count = plan_refused _ _ _ refl;
    anchor_breaks_edge_0 = record { says = refl; leaves = refl };
    anchor_not_0_at_goal = record { says = refl; leaves = refl };
  },
  record {
    job_B = record { says = refl; leaves = refl };
    job_C_at_3 = record { says = refl; leaves = refl };
    job_C_at_4 = record { says = refl; leaves = refl };
    job_C = record { says = refl; leaves = refl };
    guide_3 = refl;
    guide_3_says = refl;
  },
  record {
    ramp = record { says = refl; leaves = refl };
    all_barred = record { says = refl; leaves = refl };
    barred_breaks_rule = record { says = refl; leaves = refl };
    barred_256 = record { says = refl; leaves = refl };
    barred_255 = record { says = refl; leaves = refl };
    class_8 = plan_refused _ _ _ refl;
    class_8_written = refl;
    cost_before_class = refl;
    read_exact = refl;
    read_short = (refl, refl, refl, refl);
    classes_read = refl;
    classes_unequal = refl;
    bytes_written = refl;
  },
  record {
    above_a_million = refl;
    dearest = refl;
    too_dear = plan_refused _ _ _ refl;
    five_groups = plan_refused _ _ _ refl;
    four_not_shortest = plan_refused _ _ _ refl;
    four_as_V = plan_refused _ _ _ refl;
    four_as_M = plan_refused _ _ _ refl;
    four_as_tail = plan_refused _ _ _ refl;
    four_as_head = plan_refused _ _ _ refl;
    four_as_class = plan_refused _ _ _ refl;
    dearest_written = refl;
    dearest_passes = refl;
    too_dear_written = refl;
    enough = refl;
    short_route = refl;
    short_work = refl;
    short_wide = refl;
    schedule_before_short = refl;
    short_before_anchor = refl;
    dear_route = record { says = refl; leaves = refl };
  },
  record {
    silent = record { says = refl; leaves = refl };
    no_guides = record { says = refl; leaves = refl };
    silent_fork_case = record { says = refl; leaves = refl };
    one = record { says = refl; leaves = refl };
    would_have = refl;
    on_start = refl;
    on_goal = refl;
    two_guides = refl;
    least_without = refl;
    neither = refl;
    one_less = refl;
    anchor_number = record { says = refl; leaves = refl };
    anchor_number_guided = refl;
  },
  record { job_A = refl; job_A_at_3 = refl; reached = refl; reached_at_2 = refl; beyond = refl },
  record {
    standard_six = refl;
    default = record { says = refl; leaves = refl };
    six = record { says = refl; leaves = refl };
    own = λ default. record { says = refl; leaves = refl };
    one_round = refl;
    sixteen_rounds = refl;
    no_round = record { says = refl; leaves = refl };
    odd = record { says = refl; leaves = refl };
    seventeen_rounds = record { says = refl; leaves = refl };
    too_low = record { says = refl; leaves = refl };
    too_high = record { says = refl; leaves = refl };
    first_rises = record { says = refl; leaves = refl };
    second_rises = record { says = refl; leaves = refl };
    tables_before = refl;
    before_short = refl;
  },
  record {
    barred = record { says = refl; counts = (refl, refl); lists = (refl, refl) };
    all_barred = record { says = refl; counts = (refl, refl); lists = (refl, refl) };
    none_barred = record { says = refl; counts = (refl, refl); lists = (refl, refl) };
    route = record { says = refl; counts = (refl, refl); lists = (refl, refl) };
    unfinished = record { says = refl; counts = (refl, refl); lists = (refl, refl) };
    exact = record { says = refl; counts = (refl, refl); lists = (refl, refl) };
    short_vertices = record { says = refl; counts = (refl, refl); lists = (refl, refl) };
    short_edges = record { says = refl; counts = (refl, refl); lists = (refl, refl) };
    short_with_route = record { says = refl; counts = (refl, refl); lists = (refl, refl) };
    before_anchor = record { says = refl; counts = (refl, refl); lists = (refl, refl) };
    after_ends = record { says = refl; counts = (refl, refl); lists = (refl, refl) };
    after_tables = record { says = refl; counts = (refl, refl); lists = (refl, refl) };
  },
)

pub all_cases : Cases
all_cases = computed.0

pub apart : Apart
apart = computed.1

pub barred : Barred
barred = computed.2

pub costs : Costs
costs = computed.3

pub opinion : Opinion
opinion = computed.4

pub lead : Lead
lead = computed.5

pub defaults : Defaults
defaults = computed.6

pub reasons : Reasons
reasons = computed.7
