mod WorkedReport
