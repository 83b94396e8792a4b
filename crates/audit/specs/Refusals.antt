-- Every refusal (SCOPE section 4) as one table: calls that get it, next to nearest calls that don't, with its number as SCOPE has it and 0 where the call
-- is accepted. Assumes nothing: these are definitions.
use Rattle.audit.specs.Cases.{Hold}
use Rattle.audit.specs.SetupCases.{setup_cases}
use Rattle.audit.specs.PacketCases.{header_cases, length_cases, checksum_cases, fragment_cases, protocol_cases, transport_cases, endpoint_cases}
use Rattle.audit.specs.ConnectionCases.{number_cases, clock_cases, opening_cases, belonging_cases, idle_cases, full_cases, weight_cases}
use Rattle.audit.specs.SoundnessCases.{settings_cases, slot_cases, walk_cases, held_cases, call_cases}
use Rattle.audit.specs.OrderCases.{setup_order_cases, call_order_cases}

-- what the rules give is what is printed, in every case of every group
pub record Refusals : Type 0 where
  -- 1 to 4
  pub setup : Hold setup_cases
  -- 5
  pub number : Hold number_cases
  -- 6
  pub header : Hold header_cases
  pub length : Hold length_cases
  -- 20
  pub checksum : Hold checksum_cases
  -- 7
  pub fragment : Hold fragment_cases
  -- 8
  pub protocol : Hold protocol_cases
  -- 9
  pub transport : Hold transport_cases
  -- 10
  pub endpoint : Hold endpoint_cases
  -- 11
  pub clock : Hold clock_cases
  -- 12
  pub opening : Hold opening_cases
  pub belonging : Hold belonging_cases
  pub idle : Hold idle_cases
  -- 13
  pub full : Hold full_cases
  -- 14
  pub weight : Hold weight_cases
  -- 15
  pub settings : Hold settings_cases
  pub slot : Hold slot_cases
  pub walk : Hold walk_cases
  pub held : Hold held_cases
  pub call : Hold call_cases
  -- which of two
  pub setup_order : Hold setup_order_cases
  pub call_order : Hold call_order_cases
