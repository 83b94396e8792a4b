-- `rules::all_keep` meets its contract: the chain of each arm tests the first n servers as the rule does the places below n.
use Prim.Native.Nat.{◌-◌, min}
use mathlib.Core.Path.{◌≡◌, ◌∙◌}
use native.Mathlib.Omega.{arith}
use borrow.Author.Rules.{rules}
use borrow.Author.Tests.{tests}
use lib.ListN.{take, drop}
use Rattle.std.specs.List.{list_all, enumerate_from}
use Rattle.std.proofs.lemmas.Iterator.{YieldsList-from_slice}
use Rattle.std.proofs.lemmas.Iterator.Search.{all_from_yields_List}
use Rattle.std.proofs.lemmas.Iterator.Consumers.{YieldsList-from_enumerate}
use Rattle.lists.proofs.Chains.{all_first}
use Rattle.servers.specs.Servers.{unused}
use Rattle.servers.specs.Rules.{is_set, is_zero}
use Rattle.servers.proofs.Chains.{is_new_at, new_below, unused_from}
use Rattle.servers.proofs.rules.all_keep.Goals as goal

pub returns-in-Set : goal.returns-in-Set
returns-in-Set c =
    let s = c.args.servers.now in
    let found : c.all.result ≡ list_all is_set (take c.args.n s) =
    all_from_yields_List is_set _ _ _ c.all.ensures.ran (YieldsList-from_slice (take c.args.n s) cc) (λ x b q k. search (rules, tests)) in
    rw c.in-Set.is (found ∙ all_first is_set s unused c.args.n (omega arith))

pub returns-in-New : goal.returns-in-New
returns-in-New c =
    let s = c.args.servers.now in
    let found : c.all-in-New.result ≡ list_all (is_new_at s) (enumerate_from 0 (take c.args.n s)) =
    all_from_yields_List (is_new_at s) _ _ _ c.all-in-New.ensures.ran (YieldsList-from_enumerate (YieldsList-from_slice (take c.args.n s) cc) cc) (λ x b q k. search (rules, tests)) in
    rw c.in-New.is (found ∙ new_below s c.args.n (omega arith))

pub returns-in-UnusedFrom : goal.returns-in-UnusedFrom
returns-in-UnusedFrom c =
    let s = c.args.servers.now in
    let first = c.in-UnusedFrom.first in
    let a = min first c.args.n in
    let found : c.all-in-UnusedFrom.result ≡ list_all is_zero (take (c.args.n - a) (drop a s)) =
    all_from_yields_List is_zero _ _ _ c.all-in-UnusedFrom.ensures.ran (YieldsList-from_slice (take (c.args.n - a) (drop a s)) cc) (λ x b q k. search (rules, tests)) in
    rw c.in-UnusedFrom.is (found ∙ unused_from s first c.args.n (omega arith))
