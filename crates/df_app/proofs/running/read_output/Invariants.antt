use Rattle.df_app.proofs.running.read_output.Given as goal

-- the ledgers are the blanks
abbrev pub ghosts-load_output-Acc-Ledger : goal.ghosts-load_output-Acc-Ledger
ghosts-load_output-Acc-Ledger g a = record { name = a.accepted.name; parts = a.accepted.parts }

abbrev pub ghosts-load_output-Del-Ledger : goal.ghosts-load_output-Del-Ledger
ghosts-load_output-Del-Ledger g a = record { name = a.deleted.name; parts = a.deleted.parts }
