-- A Scan takes the least signalled record, or finds none.
use Rattle.ras_drain.proofs.Phased.{scan_found, scan_over}
use Rattle.ras_drain.proofs.phases.scan.Goals as goal

pub returns-in-Some : goal.returns-in-Some
returns-in-Some c =
    λ gather got few below.
    scan_found c.args.at gather c.args.bank.now got c.in-Some.rec c.in-Some.ensures.least c.in-Some.ensures.stands few
    below

pub returns-in-None : goal.returns-in-None
returns-in-None c =
    λ gather got few below.
    scan_over c.args.at gather c.args.bank.now c.clear_ask.new.self got c.after_empty_scan.result
    c.in-None.ensures.stands c.clear_ask.ensures.stands c.after_empty_scan.ensures.next
    (c.after_empty_scan.ensures.within gather few)
