-- The promises of specs/Promises.antt, each by its proof.
use Rattle.agreement.proofs.Answers.{translate_cleared, run_cleared, evaluate_cleared, translate_written}
use Rattle.agreement.proofs.Answers.{translate_enough, run_stood, run_failing, evaluate_items, evaluate_failing}
use Rattle.agreement.proofs.Enough.{run_enough, run_enough_fails, evaluate_enough, evaluate_enough_fails}
use Rattle.agreement.proofs.EnginesAgree.{engines_agree}
use Rattle.agreement.proofs.SixBelow.{run_six, filled_fills, evaluate_six, count_stands}
use Rattle.order.proofs.OrderTheorem.{order_free_lem}
use Rattle.grammar.proofs.Writing.{written_typed}
use Rattle.parsing.proofs.Theorems.{only_reading, nine_exactly, never_both, one_place}
use Rattle.printing.proofs.NeverNo.{never_no}
use Rattle.promises.specs.Promises.{Demand1, Demand2, Demand3, RoomSentence, Contracts, Decides, Demand3InHand}
use Rattle.promises.specs.Promises.{OrderFree, NeverNo, Engine, ShutOut, OneReading, TypedRefusals, TypedAnswers}
use Rattle.promises.specs.Promises.{RoundTrip, RoundTripInHand}
use Rattle.promises.proofs.Refusals.{catalogue_whence, query_whence, translate_whence, run_whence}
use Rattle.promises.proofs.Refusals.{evaluate_whence}
use Rattle.promises.proofs.TypedCalls.{read_whence, read_cleared, write_whence, write_cleared, read_outcome}
use Rattle.promises.proofs.TypedCalls.{read_enough, read_records, write_enough, write_written}
use Rattle.promises.proofs.ShutOut.{shut_out}
use Rattle.promises.proofs.Contracts as Ours

pub demand1 : Demand1
demand1 =
    record {
      catalogue_refuses = catalogue_whence;
      query_refuses = query_whence;
      translate_refuses = translate_whence;
      run_refuses = run_whence;
      evaluate_refuses = evaluate_whence;
      translate_clears = translate_cleared;
      run_clears = run_cleared;
      evaluate_clears = evaluate_cleared;
    }

pub demand2 : Demand2
demand2 =
    record {
      translate_gives = translate_enough;
      translate_gave = translate_written;
      run_gives = λ bytes doc i lent enough ts e. (run_enough bytes doc i lent enough ts e).0;
      run_gave = run_stood;
      run_fails = run_enough_fails;
      run_failed = run_failing;
      evaluate_gives = λ query doc i lent enough items e. (evaluate_enough query doc i lent enough items e).0;
      evaluate_gave = evaluate_items;
      evaluate_fails = evaluate_enough_fails;
      evaluate_failed = evaluate_failing;
    }

pub demand3 : Demand3
demand3 = engines_agree

pub order_free : OrderFree
order_free = order_free_lem

pub room_sentence : RoomSentence
room_sentence = record { runner = run_six; filled_is = filled_fills; evaluator = evaluate_six; count_is = count_stands }

pub contracts : Contracts
contracts = Ours.contracts

pub decides : Decides
decides = Ours.decided

pub demand3_in_hand : Demand3InHand
demand3_in_hand = Ours.in_hand

pub never_same_no : NeverNo
never_same_no = record { printed_text = never_no; told_text = Ours.told_never }

pub shuts_out : (f : Engine) → ShutOut f
shuts_out = shut_out

pub one_reading : OneReading
one_reading =
    record {
      only = only_reading;
      typed_or_outside = nine_exactly;
      never_both = never_both;
      one_place = one_place;
    }

pub typed_refusals : TypedRefusals
typed_refusals =
    record {
      read_refuses = read_whence;
      read_clears = read_cleared;
      write_refuses = write_whence;
      write_clears = write_cleared;
    }

pub typed_answers : TypedAnswers
typed_answers =
    record {
      read_answers = read_outcome;
      read_gives = read_enough;
      read_gave = read_records;
      write_gives = write_enough;
      write_gave = write_written;
    }

pub round_trip : RoundTrip
round_trip query small r e = written_typed query r small e

pub round_trip_in_hand : RoundTripInHand
round_trip_in_hand = Ours.back_in_hand
