-- What `check` is asked for as the program holds it. Assumes nothing.
use Rattle.std.specs.Prelude.{◌≡◌, Some, None, Option}
use Rattle.std.specs.Option.{option_map}
use Rattle.calls.specs.declared.call.Call.{Call}
use Rattle.calls.specs.declared.call.Call.TheVariants as call
use Rattle.calls.specs.declared.checks.CheckRequest.{CheckRequest}
use Rattle.calls.specs.declared.checks.Given.{Given}
use Rattle.calls.specs.CheckCalls.{Seen, Request}

abbrev pub seen : Given → Seen
seen g = record {
  asks = g.asks;
  ballots = option_map (λ w. w.now) g.ballots;
  sheet = option_map (λ w. w.now) g.sheet;
}

abbrev pub call_view : Call CheckRequest → Call Request
call_view call.Help = call.Help
call_view call.Version = call.Version
call_view (call.Run r) = call.Run (record { ballots = r.ballots.now; sheet = r.sheet.now })

-- the program has taken what the definition takes
abbrev pub Takes : Option Given → Option Seen → Type 0
Takes (Some g) o = o ≡ Some (seen g)
Takes None o = o ≡ None

-- the program answers what the definition says
abbrev pub Asks : Option (Call CheckRequest) → Option (Call Request) → Type 0
Asks (Some c) o = o ≡ Some (call_view c)
Asks None o = o ≡ None
