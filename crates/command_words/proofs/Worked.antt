-- Arguments and what they mean, computed.
use Rattle.std.proofs.Common.{◌≡◌, ℕ, [], ◌∷◌, refl}
use Rattle.std.specs.Prelude.{true, false, Option, Some, None, codes}
use Rattle.hyper_model.specs.declared.kinds.Measure.TheVariants.{Travel}
use Rattle.hyper_model.specs.declared.kinds.Method.TheVariants.{Certificate, Elimination}
use Rattle.report_text.specs.declared.ending.Widths.{Widths}
use Rattle.command_words.specs.Command.{command, compare_of, finite_of, fleet_of, pairs_of, reach_of, replay_of, solve_of, sweep_of}
use Rattle.command_words.specs.Limits.{limits_in}
use Rattle.command_words.specs.Options.{options_of}
use Rattle.command_words.specs.Plain.{file_with_number, file_with_options}
use Rattle.command_words.specs.Arguments.{free_argument, lists_from, long_argument}
use Rattle.command_words.specs.declared.command.Command.TheVariants.{Solve, Compare, Finite, Pairs, Sweep, Replay, Reach, Fleet}

abbrev widths : Option ℕ → Option ℕ → Widths
widths share time = record { share = share; time = time }

file_alone : command (codes "solve" ∷ codes "a.csv" ∷ []) ≡ Some (Solve (codes "a.csv") (widths None None) 1 false Elimination)
unfolding lists_from free_argument long_argument options_of solve_of file_with_options
file_alone = refl

flag_before_the_plain_arguments : command (codes "--summary" ∷ codes "solve" ∷ codes "a.csv" ∷ [])
    ≡ Some (Solve (codes "a.csv") (widths None None) 1 true Elimination)
unfolding lists_from free_argument long_argument options_of solve_of file_with_options
flag_before_the_plain_arguments = refl

width_after_its_name : command (codes "solve" ∷ codes "a.csv" ∷ codes "--width" ∷ codes "2" ∷ [])
    ≡ Some (Solve (codes "a.csv") (widths (Some 2) None) 1 false Elimination)
unfolding lists_from free_argument long_argument options_of solve_of file_with_options
width_after_its_name = refl

values_in_their_arguments : command (codes "--workers=16" ∷ codes "compare" ∷ codes "s.toml" ∷ codes "--time-width=010" ∷ [])
    ≡ Some (Compare (codes "s.toml") (widths None (Some 10)) 16 Elimination)
unfolding lists_from free_argument long_argument options_of compare_of file_with_options
values_in_their_arguments = refl

dash_after_dashes : command (codes "solve" ∷ codes "--" ∷ codes "-x.csv" ∷ [])
    ≡ Some (Solve (codes "-x.csv") (widths None None) 1 false Elimination)
unfolding lists_from free_argument long_argument options_of solve_of file_with_options
dash_after_dashes = refl

dash_alone : command (codes "solve" ∷ codes "-" ∷ []) ≡ Some (Solve (codes "-") (widths None None) 1 false Elimination)
unfolding lists_from free_argument long_argument options_of solve_of file_with_options
dash_alone = refl

width_of_one : command (codes "solve" ∷ codes "a.csv" ∷ codes "--width" ∷ codes "1" ∷ []) ≡ None
unfolding lists_from free_argument long_argument options_of solve_of file_with_options
width_of_one = refl

width_twice : command (codes "solve" ∷ codes "a.csv" ∷ codes "--width=5" ∷ codes "--width" ∷ codes "6" ∷ []) ≡ None
unfolding lists_from free_argument long_argument options_of solve_of file_with_options
width_twice = refl

name_as_value : command (codes "solve" ∷ codes "a.csv" ∷ codes "--width" ∷ codes "--summary" ∷ []) ≡ None
unfolding lists_from free_argument long_argument options_of solve_of file_with_options
name_as_value = refl

no_value : command (codes "solve" ∷ codes "a.csv" ∷ codes "--width" ∷ []) ≡ None
unfolding lists_from free_argument long_argument options_of solve_of file_with_options
no_value = refl

flag_with_a_value : command (codes "solve" ∷ codes "a.csv" ∷ codes "--summary=" ∷ []) ≡ None
unfolding lists_from free_argument long_argument options_of solve_of file_with_options
flag_with_a_value = refl

unknown_option : command (codes "solve" ∷ codes "a.csv" ∷ codes "-x" ∷ []) ≡ None
unfolding lists_from free_argument long_argument options_of solve_of file_with_options
unknown_option = refl

seventeen_workers : command (codes "solve" ∷ codes "a.csv" ∷ codes "--workers" ∷ codes "17" ∷ []) ≡ None
unfolding lists_from free_argument long_argument options_of solve_of file_with_options
seventeen_workers = refl

option_of_another_command : command (codes "compare" ∷ codes "s.toml" ∷ codes "--summary" ∷ []) ≡ None
unfolding lists_from free_argument long_argument options_of compare_of file_with_options
option_of_another_command = refl

thousand_places : command (codes "finite" ∷ codes "a.csv" ∷ codes "1000" ∷ []) ≡ Some (Finite (codes "a.csv") 1000)
unfolding lists_from free_argument long_argument finite_of file_with_number
thousand_places = refl

no_place : command (codes "finite" ∷ codes "a.csv" ∷ codes "0" ∷ []) ≡ None
unfolding lists_from free_argument long_argument finite_of file_with_number
no_place = refl

one_place_more : command (codes "finite" ∷ codes "a.csv" ∷ codes "1001" ∷ []) ≡ None
unfolding lists_from free_argument long_argument finite_of file_with_number
one_place_more = refl

five_digits : command (codes "finite" ∷ codes "a.csv" ∷ codes "00001" ∷ []) ≡ None
unfolding lists_from free_argument long_argument finite_of file_with_number
five_digits = refl

places_with_an_option : command (codes "finite" ∷ codes "a.csv" ∷ codes "1" ∷ codes "--workers=2" ∷ []) ≡ None
unfolding lists_from free_argument long_argument finite_of file_with_number
places_with_an_option = refl

all_in_pairs : command (codes "pairs" ∷ codes "a.csv" ∷ codes "100" ∷ []) ≡ Some (Pairs (codes "a.csv") 100)
unfolding lists_from free_argument long_argument pairs_of file_with_number
all_in_pairs = refl

more_than_all : command (codes "pairs" ∷ codes "a.csv" ∷ codes "101" ∷ []) ≡ None
unfolding lists_from free_argument long_argument pairs_of file_with_number
more_than_all = refl

four_digits : command (codes "pairs" ∷ codes "a.csv" ∷ codes "0050" ∷ []) ≡ None
unfolding lists_from free_argument long_argument pairs_of file_with_number
four_digits = refl

pairs_with_an_option : command (codes "pairs" ∷ codes "a.csv" ∷ codes "50" ∷ codes "--workers=2" ∷ []) ≡ None
unfolding lists_from free_argument long_argument pairs_of file_with_number
pairs_with_an_option = refl

unit_at_each_atom : command (codes "sweep" ∷ codes "a.csv" ∷ codes "B" ∷ codes "travel" ∷ [])
    ≡ Some (Sweep (codes "a.csv") (codes "B") Travel)
unfolding lists_from free_argument long_argument sweep_of
unit_at_each_atom = refl

sites_by_another_measure : command (codes "sweep" ∷ codes "a.csv" ∷ codes "B" ∷ codes "queue" ∷ []) ≡ None
unfolding lists_from free_argument long_argument sweep_of
sites_by_another_measure = refl

sites_with_an_option : command (codes "sweep" ∷ codes "a.csv" ∷ codes "B" ∷ codes "travel" ∷ codes "--workers=2" ∷ []) ≡ None
unfolding lists_from free_argument long_argument sweep_of
sites_with_an_option = refl

nothing_to_do : command [] ≡ None
unfolding lists_from
nothing_to_do = refl

plan_and_day : command (codes "replay" ∷ codes "a.csv" ∷ codes "d.csv" ∷ []) ≡ Some (Replay (codes "a.csv") (codes "d.csv"))
unfolding lists_from free_argument long_argument replay_of
plan_and_day = refl

day_with_workers : command (codes "replay" ∷ codes "a.csv" ∷ codes "d.csv" ∷ codes "--workers=2" ∷ []) ≡ None
unfolding lists_from free_argument long_argument replay_of
day_with_workers = refl

method_after_its_name : command (codes "solve" ∷ codes "a.csv" ∷ codes "--method" ∷ codes "certificate" ∷ [])
    ≡ Some (Solve (codes "a.csv") (widths None None) 1 false Certificate)
unfolding lists_from free_argument long_argument options_of solve_of file_with_options
method_after_its_name = refl

method_of_a_comparison : command (codes "compare" ∷ codes "s.toml" ∷ codes "--method=elimination" ∷ [])
    ≡ Some (Compare (codes "s.toml") (widths None None) 1 Elimination)
unfolding lists_from free_argument long_argument options_of compare_of file_with_options
method_of_a_comparison = refl

another_method : command (codes "solve" ∷ codes "a.csv" ∷ codes "--method=Certificate" ∷ []) ≡ None
unfolding lists_from free_argument long_argument options_of solve_of file_with_options
another_method = refl

method_twice : command (codes "solve" ∷ codes "a.csv" ∷ codes "--method=certificate" ∷ codes "--method=certificate" ∷ []) ≡ None
unfolding lists_from free_argument long_argument options_of solve_of file_with_options
method_twice = refl

pairs_with_a_method : command (codes "pairs" ∷ codes "a.csv" ∷ codes "50" ∷ codes "--method=elimination" ∷ []) ≡ None
unfolding lists_from free_argument long_argument pairs_of file_with_number
pairs_with_a_method = refl

two_limits : command (codes "reach" ∷ codes "a.csv" ∷ codes "240,480" ∷ []) ≡ Some (Reach (codes "a.csv") (240 ∷ 480 ∷ []))
unfolding lists_from free_argument long_argument reach_of limits_in
two_limits = refl

falling_limits : command (codes "reach" ∷ codes "a.csv" ∷ codes "480,240" ∷ []) ≡ None
unfolding lists_from free_argument long_argument reach_of limits_in
falling_limits = refl

limits_with_workers : command (codes "reach" ∷ codes "a.csv" ∷ codes "480" ∷ codes "--workers=2" ∷ []) ≡ None
unfolding lists_from free_argument long_argument reach_of limits_in
limits_with_workers = refl

fleet_alone : command (codes "fleet" ∷ codes "a.csv" ∷ []) ≡ Some (Fleet (codes "a.csv") (widths None None) false)
unfolding lists_from free_argument long_argument options_of fleet_of file_with_options
fleet_alone = refl

fleet_with_its_options : command (codes "--time-width=5" ∷ codes "fleet" ∷ codes "a.csv" ∷ codes "--summary" ∷ codes "--width" ∷ codes "2" ∷ [])
    ≡ Some (Fleet (codes "a.csv") (widths (Some 2) (Some 5)) true)
unfolding lists_from free_argument long_argument options_of fleet_of file_with_options
fleet_with_its_options = refl

fleet_with_one_worker : command (codes "fleet" ∷ codes "a.csv" ∷ codes "--workers=1" ∷ []) ≡ None
unfolding lists_from free_argument long_argument options_of fleet_of file_with_options
fleet_with_one_worker = refl

fleet_with_a_method : command (codes "fleet" ∷ codes "a.csv" ∷ codes "--method=certificate" ∷ []) ≡ None
unfolding lists_from free_argument long_argument options_of fleet_of file_with_options
fleet_with_a_method = refl

fleet_of_width_one : command (codes "fleet" ∷ codes "a.csv" ∷ codes "--width=1" ∷ []) ≡ None
unfolding lists_from free_argument long_argument options_of fleet_of file_with_options
fleet_of_width_one = refl
