-- What `count` is asked for as the program holds it. Assumes nothing.
use Rattle.std.specs.Prelude.{◌≡◌, Some, None, Option}
use Rattle.std.specs.Option.{option_map}
use Rattle.calls.specs.declared.call.Call.{Call}
use Rattle.calls.specs.declared.call.Call.TheVariants as call
use Rattle.calls.specs.declared.counts.CountRequest.{CountRequest}
use Rattle.calls.specs.declared.counts.DrawSource.{DrawSource}
use Rattle.calls.specs.declared.counts.DrawSource.TheVariants as draw
use Rattle.calls.specs.declared.counts.Given.{Given}
use Rattle.calls.specs.CountCalls.{Seen, Draw, Nowhere, FromFile, FromWords, Request}
use Rattle.calls.specs.DrawnViews.{drawn_word}

abbrev pub seen : Given → Seen
seen g = record {
  asks = g.asks;
  ballots = option_map (λ w. w.now) g.ballots;
  draw = option_map (λ w. w.now) g.draw;
  drawn = option_map drawn_word g.drawn;
  sheet = option_map (λ w. w.now) g.sheet;
}

abbrev pub draw_view : DrawSource → Draw
draw_view draw.Nowhere = Nowhere
draw_view (draw.File w) = FromFile w.now
draw_view (draw.Words d) = FromWords (drawn_word d)

abbrev pub request_view : CountRequest → Request
request_view r = record { ballots = r.ballots.now; draw = draw_view r.draw; sheet = option_map (λ w. w.now) r.sheet }

abbrev pub call_view : Call CountRequest → Call Request
call_view call.Help = call.Help
call_view call.Version = call.Version
call_view (call.Run r) = call.Run (request_view r)

-- the program has taken what the definition takes
abbrev pub Takes : Option Given → Option Seen → Type 0
Takes (Some g) o = o ≡ Some (seen g)
Takes None o = o ≡ None

-- the program answers what the definition says
abbrev pub Asks : Option (Call CountRequest) → Option (Call Request) → Type 0
Asks (Some c) o = o ≡ Some (call_view c)
Asks None o = o ≡ None
